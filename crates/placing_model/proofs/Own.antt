-- The machine is steady, takes the turns of its state, and so keeps the whole promise.
use Rattle.std.proofs.Common.{◌≡◌, ℕ, zero, suc, ◌<◌, true, eqb, List, [], ◌∷◌, length, sym, refl, ◌∙◌, arith, lit<}
use Rattle.std.proofs.lemmas.Bool.{and_from, and_parts, eq-eqb, lt-ltb, eqb-true, ltb-true}
use Rattle.words.specs.Small.{Small}
use Rattle.words.proofs.Cases.{by_test}
use Rattle.hall.specs.House.{every}
use Rattle.hall.specs.Promise.{Event, Act, said, next, done, refused, Steady, Whole, all_small}
use Rattle.machine.specs.Machine.{State, turn, turn_of}
use Rattle.machine.specs.Lifting.{event_number, says_puts, Lifts}
use Rattle.machine.specs.Keeping.{Kept}
use Rattle.machine.specs.Acts.{Exactly}
use Rattle.machine.proofs.Keeping.{keep_turn, keep_start}
use Rattle.machine.proofs.Refines.{whole}
use Rattle.machine.proofs.Acts.{exactly}
use Rattle.machine.proofs.Busy.{busy_right}
use Rattle.placing_model.specs.Parts.{parts, zeros}
use Rattle.placing_model.specs.Memory.{cut, joined}
use Rattle.placing_model.specs.Own.{fits, own}
use Rattle.placing_model.specs.Claims.{OwnBusy}
use Rattle.placing_model.proofs.Laws.{lawful, sized, fit}
use Rattle.placing_model.proofs.Memory.{Sizes, Words, cut_joined, joined_cut, joined_length, sizes_cut, words_cut, words_joined, length_zeros, joined_zeros}

-- two ways to say that all words fit 64 bits
small_from : (m : List ℕ) → all_small m ≡ true → Small m
unfolding all_small every Small
small_from [] h k = omega arith
small_from (x ∷ m) h zero = ltb-true x 18446744073709551616 (and_parts _ _ h).0
small_from (x ∷ m) h (suc k) = small_from m (and_parts _ _ h).1 k

small_to : (m : List ℕ) → Small m → all_small m ≡ true
unfolding all_small every Small
small_to [] s = refl
small_to (x ∷ m) s = and_from _ _ (lt-ltb x 18446744073709551616 (s 0)) (small_to m (λ k. s (suc k)))

all_zero : (n : ℕ) → every (λ w. eqb w 0) (zeros n) ≡ true
unfolding every zeros
all_zero zero = refl
all_zero (suc n) = all_zero n

pub fits_yes : (m : List ℕ) (ev : Event) → length m ≡ 239635 → event_number ev < 18446744073709551616 → fits m ev ≡ true
unfolding fits
fits_yes m ev h l = and_from _ _ (eq-eqb _ _ h) (lt-ltb _ _ l)

fits_parts : (m : List ℕ) (ev : Event) → fits m ev ≡ true → (length m ≡ 239635) × (event_number ev < 18446744073709551616)
unfolding fits
fits_parts m ev h = let p = and_parts _ _ h in (eqb-true _ _ p.0, ltb-true _ _ p.1)

pub sizes_turn : (s : State parts) (ev : Event) → Kept parts Sizes s → Kept parts Sizes (turn_of parts s ev).state
sizes_turn s ev k = keep_turn parts Sizes sized s ev k tt

unfoldable pub own_lifts : Lifts parts own
unfolding own
own_lifts = record {
  joined = joined;
  Fits = Kept parts Sizes;
  start_fits = keep_start parts Sizes sized;
  start_joined = sym joined_zeros;
  turn_fits = λ s ev k h. sizes_turn s ev k;
  step_lift = λ s ev k h. rw (fits_yes (joined s) ev (joined_length s k) h, cut_joined s k) refl;
}

step_steady : (m : List ℕ) (ev : Event) → (length (own.step m ev).memory ≡ length m) × (all_small m ≡ true → all_small (own.step m ev).memory ≡ true)
unfolding own
step_steady m ev =
    by_test (fits m ev)
    (λ q. let p = fits_parts m ev q in
    rw q (
      joined_length _ (sizes_turn _ ev (sizes_cut m p.0)) ∙ sym p.0,
      λ a. small_to _ (words_joined _ (keep_turn parts Words fit _ ev (words_cut m p.0 (small_from m a)) p.1)),
    ))
    (λ q. rw q (refl, λ a. a))

own_steady : Steady own
unfolding Steady own
own_steady = (let h = length_zeros 239635 in omega arith, all_zero 239635, step_steady)

-- THE THEOREM
pub own_whole : Whole own
own_whole = whole parts lawful own own_lifts own_steady

-- act by act
pub own_exactly : Exactly own
own_exactly = exactly parts lawful own own_lifts

-- a step is the turn of the state that the memory holds
pub own_step : (m : List ℕ) (ev : Event) → length m ≡ 239635 → event_number ev < 18446744073709551616 →
    own.step m ev ≡ record { memory = joined (turn_of parts (cut m) ev).state; act = (turn_of parts (cut m) ev).act }
unfolding own
own_step m ev h n = rw (fits_yes m ev h n) refl

own_same : (m : List ℕ) (ev : Event) (a : Act) → length m ≡ 239635 → event_number ev < 18446744073709551616 → turn_of parts (cut m) ev ≡ turn parts (cut m) a →
    own.step m ev ≡ record { memory = m; act = a }
own_same m ev a h n e = let j = joined_cut m h in own_step m ev h n ∙ rw (e, j) refl

-- for every memory: what is told while a step is under way, and when none is
pub own_busy : OwnBusy
own_busy m h = record {
  refuses = λ c n p. own_same m (said c) (refused 2) h n ((busy_right parts (cut m)).refuses c p);
  rests = λ p. own_same m next done h (lit< tt) ((busy_right parts (cut m)).rests p);
  goes_on = λ ev n p.
      let s = own_step m ev h n in
      let q : says_puts (turn_of parts (cut m) ev).act ≡ true = rw s at p in
      rw (s, cut_joined _ (sizes_turn (cut m) ev (sizes_cut m h))) ((busy_right parts (cut m)).goes_on ev q);
}
