-- A worked spring, as one table of theorems: each row holds of every store that is so, however its lists are ordered, and of every change.
use Rattle.std.specs.Prelude.{◌≡◌, ℕ, true, false, ◌⊎◌, List, [], ◌∷◌, length, nat_eq}
use Rattle.hall.specs.House.{every, each, has, same_set, same_one, shelf_of, Store, goods, load, fine, level, comes, goes, shelf_comes, shelf_goes, refusal, Move, put, after}
use Rattle.hall.specs.Claims.{Changed}

-- a fine store with the shelves ks, which have ls goods, in turn
pub record Stocked (s : Store) (ks ls : List ℕ) : Type 0 where
  pub is_fine : fine s ≡ true
  pub shelves_are : same_set s.shelves ks ≡ true
  pub loads_are : each (load s) ks ≡ ls

-- the table; where the store afterwards is stocked so, it is as the next row has it
pub record Spring : Type 0 where
  -- with no shelf there a good is refused
  pub no_shelf : refusal (record { shelves = []; spots = [] }) (comes 1) ≡ 5
  -- goods 1 to 5 on shelves 10 and 20: three on one, two on the other
  pub three_and_two :
      (s : Store) → fine s ≡ true → level s ≡ true → same_set s.shelves (10 ∷ 20 ∷ []) ≡ true → same_set (goods s) (1 ∷ 2 ∷ 3 ∷ 4 ∷ 5 ∷ []) ≡ true →
      Stocked s (10 ∷ 20 ∷ []) (3 ∷ 2 ∷ []) ⊎ Stocked s (10 ∷ 20 ∷ []) (2 ∷ 3 ∷ [])
  -- shelf 30 comes: one good is put, from the shelf with three, on 30
  pub shelf_30_comes :
      (s : Store) (ms : List Move) → Stocked s (10 ∷ 20 ∷ []) (3 ∷ 2 ∷ []) ⊎ Stocked s (10 ∷ 20 ∷ []) (2 ∷ 3 ∷ []) → Changed s (shelf_comes 30) ms →
      (g k : ℕ) × (shelf_of s.spots g ≡ k ∷ []) × (load s k ≡ 3) × (ms ≡ put g 30 ∷ [])
      × Stocked (after s (shelf_comes 30) ms) (10 ∷ 20 ∷ 30 ∷ []) (2 ∷ 2 ∷ 1 ∷ [])
  -- good 6 comes: it is put on the shelf with one, which is 30
  pub good_6_comes :
      (s : Store) (ms : List Move) → Stocked s (10 ∷ 20 ∷ 30 ∷ []) (2 ∷ 2 ∷ 1 ∷ []) → has (goods s) 6 ≡ false → Changed s (comes 6) ms →
      (ms ≡ put 6 30 ∷ []) × Stocked (after s (comes 6) ms) (10 ∷ 20 ∷ 30 ∷ []) (2 ∷ 2 ∷ 2 ∷ [])
  -- a good of 30 goes: nothing is put
  pub good_of_30_goes :
      (s : Store) (g : ℕ) (ms : List Move) → Stocked s (10 ∷ 20 ∷ 30 ∷ []) (2 ∷ 2 ∷ 2 ∷ []) → shelf_of s.spots g ≡ 30 ∷ [] → Changed s (goes g) ms →
      (ms ≡ []) × Stocked (after s (goes g) ms) (10 ∷ 20 ∷ 30 ∷ []) (2 ∷ 2 ∷ 1 ∷ [])
  -- a good of 10 goes: nothing is put
  pub good_of_10_goes :
      (s : Store) (g : ℕ) (ms : List Move) → Stocked s (10 ∷ 20 ∷ 30 ∷ []) (2 ∷ 2 ∷ 1 ∷ []) → shelf_of s.spots g ≡ 10 ∷ [] → Changed s (goes g) ms →
      (ms ≡ []) × Stocked (after s (goes g) ms) (10 ∷ 20 ∷ 30 ∷ []) (1 ∷ 2 ∷ 1 ∷ [])
  -- shelf 30 goes: its one good is put, on 10
  pub shelf_30_goes :
      (s : Store) (ms : List Move) → Stocked s (10 ∷ 20 ∷ 30 ∷ []) (1 ∷ 2 ∷ 1 ∷ []) → Changed s (shelf_goes 30) ms →
      (g : ℕ) × (shelf_of s.spots g ≡ 30 ∷ []) × (ms ≡ put g 10 ∷ [])
      × Stocked (after s (shelf_goes 30) ms) (10 ∷ 20 ∷ []) (2 ∷ 2 ∷ [])
  -- shelf 20 goes: its goods are put, both of them and no other, all on 10
  pub shelf_20_goes :
      (s : Store) (ms : List Move) → Stocked s (10 ∷ 20 ∷ []) (2 ∷ 2 ∷ []) → Changed s (shelf_goes 20) ms →
      (length ms ≡ 2) × ((g : ℕ) → has (each (λ m. m.good) ms) g ≡ same_one (shelf_of s.spots g) (20 ∷ [])) × (every (λ m. nat_eq m.to 10) ms ≡ true)
      × Stocked (after s (shelf_goes 20) ms) (10 ∷ []) (4 ∷ [])
  -- shelf 10 goes: refused, it is the last, and there are goods
  pub shelf_10_stays : (s : Store) → Stocked s (10 ∷ []) (4 ∷ []) → refusal s (shelf_goes 10) ≡ 6
