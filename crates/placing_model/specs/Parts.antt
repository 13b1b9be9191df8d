-- The machine's parts as regions of words: an index of goods, an index of shelves, loads and contents.
use Rattle.std.specs.Prelude.{ℕ, List, replicate}
use Rattle.index_model.specs.Model.{find_at, number_at, count_at, insert_slot, insert_in, remove_in}
use Rattle.loads_model.specs.Model.{emptiest_at, fullest_at, load_at, enter_at, leave_at, add_one_at, take_one_at}
use Rattle.contents_model.specs.Model.{shelf_at, first_at, add_at, remove_at}
use Rattle.machine.specs.Interfaces.{Index, Loads, Contents, Parts}

-- so many words, all 0
unfoldable pub zeros : ℕ → List ℕ
zeros n = replicate n 0

-- an index whose heads have so many bits, in a region of so many words
abbrev pub index_of : ℕ → ℕ → Index
index_of bits size = record {
  Rows = List ℕ;
  empty = zeros size;
  find = find_at bits;
  num = number_at bits;
  count = count_at;
  takes = insert_slot bits;
  insert = insert_in bits;
  remove = remove_in bits;
}

abbrev pub loads_of : ℕ → Loads
loads_of size = record {
  Tree = List ℕ;
  empty = zeros size;
  load = load_at;
  emptiest = emptiest_at;
  fullest = fullest_at;
  enter = enter_at;
  leave = leave_at;
  add_one = add_one_at;
  take_one = take_one_at;
}

abbrev pub contents_of : ℕ → Contents
contents_of size = record { Lists = List ℕ; empty = zeros size; shelf = shelf_at; first = first_at; add = add_at; remove = remove_at }

-- 32,768 goods, 1,024 shelves
abbrev pub parts : Parts
parts = record { goods = index_of 15 131078; shelves = index_of 10 4102; loads = loads_of 5121; contents = contents_of 99332 }
