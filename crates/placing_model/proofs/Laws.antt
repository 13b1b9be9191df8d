-- The parts obey the laws that the machine asks for, and keep their sizes and words of 64 bits.
use Rattle.std.proofs.Common.{◌≡◌, ℕ, zero, suc, ◌+◌, ◌-◌, ◌/◌, ◌<◌, ◌≤◌, List, length, get_or, sym, refl, ap, ◌∙◌, subst, inl, inr, arith, lit<}
use Rattle.words.specs.Small.{Small}
use Rattle.index_model.specs.Model.{capacity, heads, find_at, insert_slot, insert_in, count_at}
use Rattle.index_model.specs.Sound.{SoundIn}
use Rattle.index_model.proofs.Bounds.{bound_law, narrow_law}
use Rattle.index_model.proofs.Finds.{empty_law, found_law, refuse_law}
use Rattle.index_model.proofs.Inserts.{insert_law}
use Rattle.index_model.proofs.Removes.{remove_law}
use Rattle.loads_model.specs.Sound.{There}
use Rattle.loads_model.specs.Sound as loads
use Rattle.loads_model.specs.Laws.{SetAt}
use Rattle.loads_model.proofs.Laws as loads_laws
use Rattle.contents_model.specs.Model.{shelf_at}
use Rattle.contents_model.specs.Laws.{Fits}
use Rattle.contents_model.specs.Sound as contents
use Rattle.contents_model.proofs.Laws as contents_laws
use Rattle.machine.specs.Interfaces.{IndexLaws, LoadsLaws, ContentsLaws, Laws}
use Rattle.machine.specs.Interfaces as asked
use Rattle.machine.specs.Keeping.{IndexKeeps, LoadsKeep, ContentsKeep, Keep}
use Rattle.placing_model.specs.Parts.{zeros, index_of, loads_of, contents_of, parts}
use Rattle.placing_model.proofs.Memory.{Sizes, Words, length_zeros}

get_or_zeros : (n p : ℕ) → get_or (zeros n) p 0 ≡ 0
unfolding zeros
get_or_zeros zero p = refl
get_or_zeros (suc n) zero = refl
get_or_zeros (suc n) (suc p) = get_or_zeros n p

small_zeros : (n : ℕ) → Small (zeros n)
unfolding Small
small_zeros n k = rw (get_or_zeros n k) (lit< tt)

-- an index whose region has room for so many rows
module _ (bits size room : ℕ) (fits : (size - (heads bits + 6)) / 3 ≡ room) where
  abbrev Held : List ℕ → Type 0
  Held m = SoundIn bits m × (length m ≡ size)

  room_is : (m : List ℕ) → length m ≡ size → capacity bits m ≡ room
  room_is m h = ap (λ n. (n - (heads bits + 6)) / 3) h ∙ fits

  insert_is : (m : List ℕ) (n : ℕ) → Held m → n < 18446744073709551616 → find_at bits m n ≡ 0 → count_at m < room →
      Rattle.index_model.specs.Laws.Inserted bits m (insert_in bits m n) n (insert_slot bits m n)
  insert_is m n h small none few = insert_law bits m n h.0 small none (rw (room_is m h.1) few)

  index_lawful : IndexLaws room (index_of bits size)
  index_lawful = record {
    Sound = Held;
    bounded = λ m n h. subst (λ r. find_at bits m n ≤ r) (room_is m h.1) (bound_law bits m n).found;
    named = λ m n h p. (found_law bits m n h.0 p).number;
    empty_sound = ((empty_law bits (zeros size) (get_or_zeros size)).sound, length_zeros size);
    empty_find = (empty_law bits (zeros size) (get_or_zeros size)).bare;
    empty_count = (empty_law bits (zeros size) (get_or_zeros size)).none;
    insert_sound = λ m n h small none few. ((insert_is m n h small none few).sound, (bound_law bits m n).insert ∙ h.1);
    insert_takes = λ m n h small none few. let i = insert_is m n h small none few in (i.some, i.found);
    insert_full = λ m n h full. (refuse_law bits m n).full (rw (room_is m h.1) full);
    insert_others = λ m n k h small none few ne. (insert_is m n h small none few).others k ne;
    insert_count = λ m n h small none few. let e = (insert_is m n h small none few).counted in omega arith;
    remove_sound = λ m n h p. ((remove_law bits m n h.0 p).sound, (bound_law bits m n).remove ∙ h.1);
    remove_gone = λ m n h p. (remove_law bits m n h.0 p).gone;
    remove_others = λ m n k h p ne. (remove_law bits m n h.0 p).others k ne;
    remove_count = λ m n h p. let e = (remove_law bits m n h.0 p).counted in omega arith;
  }

  index_sized : IndexKeeps (index_of bits size) (λ m. length m ≡ size) (λ n. Unit {0})
  index_sized = record {
    empty = length_zeros size;
    insert = λ m n h q. (bound_law bits m n).insert ∙ h;
    remove = λ m n h q. (bound_law bits m n).remove ∙ h;
    find = λ m n h. tt;
    takes = λ m n h. tt;
    num = λ m x h. tt;
  }

  module _ (narrow : size < 18446744073709551616) where
    index_fits : IndexKeeps (index_of bits size) (λ m. (length m ≡ size) × Small m) (λ n. n < 18446744073709551616)
    index_fits = record {
      empty = (length_zeros size, small_zeros size);
      insert = λ m n h q. ((bound_law bits m n).insert ∙ h.0, ((narrow_law bits m n).insert (rw h.0 narrow) q).small h.1);
      remove = λ m n h q. ((bound_law bits m n).remove ∙ h.0, (narrow_law bits m n).remove.small h.1);
      find = λ m n h. (narrow_law bits m n).found h.1;
      takes = λ m n h. let b = (bound_law bits m n).told in let l = h.0 in omega (arith, room_is m h.0, sym fits);
      num = λ m x h. (narrow_law bits m x).number h.1;
    }

-- the loads
set_at : (m n : List ℕ) (x l l₁ : ℕ) → SetAt m n x l → l ≡ l₁ → asked.SetAt (loads_of 5121) loads.Sound There m n x l₁
set_at m n x l l₁ s e = record { sound = s.sound; here = s.here ∙ e; others = s.others; stay = s.stay }

loads_lawful : LoadsLaws 1024 (loads_of 5121)
unfolding zeros
loads_lawful = record {
  Sound = loads.Sound;
  There = There;
  empty_sound = (loads_laws.empty_law).0;
  empty_none = (loads_laws.empty_law).1;
  emptiest_there = λ m s p. elim (loads_laws.emptiest_law m s) [ inl x ↦ (let e = x.0 in absurd (omega arith)) | inr x ↦ x.0 ];
  emptiest_least = λ m x s t. elim (loads_laws.emptiest_law m s) [ inl e ↦ absurd (e.1 x t) | inr e ↦ (e.0, (e.1 x t).0) ];
  fullest_most = λ m x s t. elim (loads_laws.fullest_law m s) [ inl e ↦ absurd (e.1 x t) | inr e ↦ (e.0, (e.1 x t).0) ];
  enters = λ m x s p b. let r = loads_laws.enter_law m x s p b in (set_at m _ x _ _ r.0 refl, r.1);
  leaves = λ m x s p b. let r = loads_laws.leave_law m x s p b in (set_at m _ x _ _ r.0 refl, r.1);
  adds = λ m x s p b l. let r = loads_laws.add_one_law m x s p b l in (set_at m _ x _ _ r.0 refl, r.1.0);
  takes = λ m x s p b. let r = loads_laws.take_one_law m x s p b in (set_at m _ x _ _ r.0 refl, r.1.0);
}

loads_sized : LoadsKeep (loads_of 5121) (λ m. length m ≡ 5121) (λ n. Unit {0})
loads_sized = record {
  empty = length_zeros 5121;
  enter = λ m x h q. ((loads_laws.kept_law).0 m x).long ∙ h;
  leave = λ m x h q. ((loads_laws.kept_law).1 m x).long ∙ h;
  add_one = λ m x h q. ((loads_laws.kept_law).2 m x).long ∙ h;
  take_one = λ m x h q. ((loads_laws.kept_law).3 m x).long ∙ h;
  emptiest = λ m h. tt;
  fullest = λ m h. tt;
}

loads_fits : LoadsKeep (loads_of 5121) (λ m. (length m ≡ 5121) × Small m) (λ n. n < 18446744073709551616)
loads_fits = record {
  empty = (length_zeros 5121, small_zeros 5121);
  enter = λ m x h q. let k = (loads_laws.kept_law).0 m x in (k.long ∙ h.0, k.small h.1);
  leave = λ m x h q. let k = (loads_laws.kept_law).1 m x in (k.long ∙ h.0, k.small h.1);
  add_one = λ m x h q. let k = (loads_laws.kept_law).2 m x in (k.long ∙ h.0, k.small h.1);
  take_one = λ m x h q. let k = (loads_laws.kept_law).3 m x in (k.long ∙ h.0, k.small h.1);
  emptiest = λ m h. (loads_laws.small_law m h.1).0;
  fullest = λ m h. (loads_laws.small_law m h.1).1;
}

-- the contents
abbrev On : List ℕ → Type 0
On m = contents.Sound m × (length m ≡ 99332)

fits_in : (m : List ℕ) (x y : ℕ) → length m ≡ 99332 → 0 < x → x ≤ 1024 → 0 < y → y ≤ 32768 → shelf_at m y ≡ 0 → Fits m x y
fits_in m x y h p b q c e = record { some_shelf = p; shelf_below = omega arith; some_good = q; good_below = omega (arith, contents_laws.rows_law m h); free = e }

contents_lawful : ContentsLaws 32768 1024 (contents_of 99332)
unfolding zeros
contents_lawful = record {
  Sound = On;
  empty_sound = ((contents_laws.empty_law 99332).0, length_zeros 99332);
  empty_shelf = (contents_laws.empty_law 99332).1;
  first_some = λ m y h p. (contents_laws.first_law m h.0).some y p;
  first_on = λ m x h p b q. (contents_laws.first_law m h.0).on x q;
  add_sound = λ m x y h p b q c e. (contents_laws.add_keeps m x y h.0, (contents_laws.kept_law m).add_long x y ∙ h.1);
  add_here = λ m x y h p b q c e. (contents_laws.add_law m x y h.0 (fits_in m x y h.1 p b q c e)).here;
  add_others = λ m x y z h p b q c e n. (contents_laws.add_law m x y h.0 (fits_in m x y h.1 p b q c e)).others z n;
  remove_sound = λ m y h p. ((contents_laws.remove_law m y h.0).sound, ((contents_laws.kept_law m).remove y).long ∙ h.1);
  remove_here = λ m y h p. (contents_laws.remove_law m y h.0).here;
  remove_others = λ m y z h p n. (contents_laws.remove_law m y h.0).others z n;
}

contents_sized : ContentsKeep (contents_of 99332) (λ m. length m ≡ 99332) (λ n. Unit {0})
contents_sized = record {
  empty = length_zeros 99332;
  add = λ m x y h p q. (contents_laws.kept_law m).add_long x y ∙ h;
  remove = λ m y h p. ((contents_laws.kept_law m).remove y).long ∙ h;
  shelf = λ m y h. tt;
  first = λ m x h. tt;
}

contents_fits : ContentsKeep (contents_of 99332) (λ m. (length m ≡ 99332) × Small m) (λ n. n < 18446744073709551616)
contents_fits = record {
  empty = (length_zeros 99332, small_zeros 99332);
  add = λ m x y h p q. let k = (contents_laws.kept_law m).add x y q in (k.long ∙ h.0, k.small h.1);
  remove = λ m y h p. let k = (contents_laws.kept_law m).remove y in (k.long ∙ h.0, k.small h.1);
  shelf = λ m y h. let b = (contents_laws.bounds_law m y).shelf in omega arith;
  first = λ m x h. (contents_laws.bounds_law m x).first_fits h.1;
}

-- the sizes are just right
goods_room : (131078 - (heads 15 + 6)) / 3 ≡ 32768
unfolding heads
goods_room = refl

shelves_room : (4102 - (heads 10 + 6)) / 3 ≡ 1024
unfolding heads
shelves_room = refl

pub lawful : Laws parts
lawful = record {
  goods = index_lawful 15 131078 32768 goods_room;
  shelves = index_lawful 10 4102 1024 shelves_room;
  loads = loads_lawful;
  contents = contents_lawful;
}

pub sized : Keep parts Sizes
sized = record {
  goods = index_sized 15 131078 32768 goods_room;
  shelves = index_sized 10 4102 1024 shelves_room;
  loads = loads_sized;
  contents = contents_sized;
  zero = tt;
  one = tt;
  two = tt;
  three = tt;
}

pub fit : Keep parts Words
fit = record {
  goods = index_fits 15 131078 32768 goods_room (lit< tt);
  shelves = index_fits 10 4102 1024 shelves_room (lit< tt);
  loads = loads_fits;
  contents = contents_fits;
  zero = lit< tt;
  one = lit< tt;
  two = lit< tt;
  three = lit< tt;
}
