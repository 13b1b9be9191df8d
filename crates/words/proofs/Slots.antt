-- What an answer says of its slot.
use Rattle.std.proofs.Common.{◌≡◌, ℕ, Bool, true, false, cond, eqb, Some, None, refl}
use Rattle.std.proofs.lemmas.Bool.{eqb-true, eqb-false}
use Rattle.words.specs.Slots.{some_slot}

none_test : (x : ℕ) (b : Bool) → None ≡ cond b None (Some x) → b ≡ true
none_test x true h = refl
none_test x false h = cc

pub slot_none : (x : ℕ) → None ≡ some_slot x → x ≡ 0
slot_none x h = eqb-true x 0 (none_test x (eqb x 0) h)

some_test : (x s : ℕ) (b : Bool) → Some s ≡ cond b None (Some x) → (b ≡ false) × (s ≡ x)
some_test x s true h = cc
some_test x s false h = (refl, cc)

pub slot_some : (x s : ℕ) → Some s ≡ some_slot x → (x ≡ 0 → ⊥) × (s ≡ x)
slot_some x s h = let told = some_test x s (eqb x 0) h in (eqb-false x 0 told.0, told.1)
