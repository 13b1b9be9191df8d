-- What keeps an index right: each slot in use hangs where the bits of its number's key lead, and the free slots are a list.
use Rattle.std.specs.Prelude.{◌≡◌, ℕ, zero, suc, ◌+◌, ◌/◌, ◌%◌, ◌^◌, ◌<◌, ◌≤◌, ◌⊎◌, List, [], ◌∷◌, length, ◌≢◌}
use Rattle.index_model.specs.Model.{span, levels, key, head, bit, left, capacity, child, slot_of, slot_at, number_at, fresh_at, free_at, count_at}

-- half of what a key's rest is below after so many levels, and that rest
abbrev pub half : ℕ → ℕ → ℕ
half bits zero = span bits / 2
half bits (suc d) = half bits d / 2

abbrev pub rest : ℕ → ℕ → ℕ → ℕ
rest bits n zero = key n % span bits
rest bits n (suc d) = left (half bits d) (rest bits n d)

-- the link that a search takes then: 0 the left one, 1 the right one
unfoldable pub turn : ℕ → ℕ → ℕ → ℕ
turn bits n d = bit (half bits d) (rest bits n d)

-- the link where a search then is
abbrev pub spot : ℕ → (at : ℕ → ℕ) → ℕ → ℕ → ℕ
spot bits at n zero = head bits n
spot bits at n (suc d) = child bits (at (spot bits at n d)) (turn bits n d)

-- the search goes on past each of the first d links: a slot hangs there, with another number
abbrev pub Passes : ℕ → (at num : ℕ → ℕ) → ℕ → ℕ → Type 0
Passes bits at num n d =
    (e : ℕ) → e < d → (at (spot bits at n e) ≢ 0) × (num (at (spot bits at n e)) ≢ n)

-- the search for the number that hangs at a link comes to that link
pub record Hangs (bits : ℕ) (at num : ℕ → ℕ) (p : ℕ) : Type 0 where
  pub depth : ℕ
  pub shallow : depth < levels bits
  pub here : spot bits at (num (at p)) depth ≡ p
  pub passes : Passes bits at num (num (at p)) depth
  pub fits : num (at p) < 2 ^ 64

abbrev pub Sound : ℕ → (at num : ℕ → ℕ) → Type 0
Sound bits at num = (p : ℕ) → (at p ≢ 0) → Hangs bits at num p

-- a number is one of these, or none of them
abbrev pub Inside : ℕ → List ℕ → Type 0
Inside s [] = ⊥
Inside s (x ∷ xs) = (s ≡ x) ⊎ Inside s xs

abbrev pub Outside : ℕ → List ℕ → Type 0
Outside s [] = Unit {0}
Outside s (x ∷ xs) = (s ≢ x) × Outside s xs

-- each of these comes once
abbrev pub Distinct : List ℕ → Type 0
Distinct [] = Unit {0}
Distinct (x ∷ xs) = Outside x xs × Distinct xs

-- from f on, these slots follow one another; each is one of the first so many, hangs nowhere, and comes once
abbrev pub Chain : (at next : ℕ → ℕ) → ℕ → ℕ → List ℕ → Type 0
Chain at next top f [] = f ≡ 0
Chain at next top f (s ∷ xs) =
    (f ≡ s) × (0 < s) × (s ≤ top) × ((p : ℕ) → at p ≢ s) × Outside s xs × Chain at next top (next s) xs

-- the slot after a free one
abbrev pub next_at : ℕ → List ℕ → ℕ → ℕ
next_at bits m s = slot_of bits m (number_at bits m s)

-- uses are the slots in use, the chain those that were and are free
pub record SoundIn (bits : ℕ) (m : List ℕ) : Type 0 where
  pub hang : Sound bits (slot_at bits m) (number_at bits m)
  pub low : (p : ℕ) → slot_at bits m p ≤ fresh_at m
  pub top : fresh_at m ≤ capacity bits m
  pub uses : List ℕ
  pub used : (p : ℕ) → (slot_at bits m p ≢ 0) → Inside (slot_at bits m p) uses
  pub hung : (s : ℕ) → Inside s uses → (0 < s) × ((p : ℕ) × (slot_at bits m p ≡ s))
  pub once : Distinct uses
  pub count : count_at m ≡ length uses
  pub chain : List ℕ
  pub linked : Chain (slot_at bits m) (next_at bits m) (fresh_at m) (free_at bits m) chain
  pub counts : fresh_at m ≡ length uses + length chain
