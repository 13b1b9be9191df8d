-- A run of the machine, act by act, as the code makes it.
use Rattle.std.proofs.Common.{◌≡◌, ℕ, suc, ◌&&◌, ltb, leb, List, [], ◌∷◌, ◌++◌, refl, ap, ◌∙◌}
use Rattle.hall.specs.House.{pick, each, Move}
use Rattle.hall.specs.Promise.{Event, Step, next, Ran, ran, one_act, runs}
use Rattle.placing_model.specs.Own.{own}
use Rattle.placing.specs.Acts.{act_of, refusal_number}
use Rattle.placing.specs.declared.acts.Act.{Act}
use Rattle.placing.specs.declared.acts.Act.TheVariants.{Puts, Done, Refused}
use Rattle.placing.specs.declared.acts.Refusal.{Refusal}
use Rattle.placing.specs.declared.acts.Refusal.TheVariants.{Busy, NotThere, AlreadyThere, NoShelf, LastShelf, Full}
use Rattle.placing.specs.declared.acts.Spot.{Spot}
use Rattle.owner.specs.Runs.{moves_of}

-- one more at the end of a list
pub each_more : {A B : Type 0} (f : A → B) (xs : List A) (x : A) → each f (xs ++ x ∷ []) ≡ each f xs ++ f x ∷ []
unfolding each
each_more f [] x = refl
each_more f (y ∷ xs) x = ap (λ ys. f y ∷ ys) (each_more f xs x)

told_number : (why : Refusal) → pick (leb 1 (refusal_number why) && ltb (refusal_number why) 1000) (refusal_number why) 1001 ≡ refusal_number why
told_number Busy = refl
told_number NotThere = refl
told_number AlreadyThere = refl
told_number NoShelf = refl
told_number LastShelf = refl
told_number Full = refl

-- one act of a run that has some left
module _ (k n : ℕ) (m m₁ : List ℕ) (ev : Event) (ms : List Move) (left : k ≡ suc n) where
  runs_act : (act : Act) → own.step m ev ≡ record { memory = m₁; act = act_of act } → runs k own m ev ms ≡ one_act (λ m₂ ms₂. runs n own m₂ next ms₂) ms m₁ (act_of act)
  unfolding runs
  runs_act act s = rw left (ap (λ (s : Step). one_act (λ m₂ ms₂. runs n own m₂ next ms₂) ms s.memory s.act) s)

  pub runs_puts : (act : Act) (p : Spot) → act ≡ Puts p → own.step m ev ≡ record { memory = m₁; act = act_of act } →
      runs k own m ev ms ≡ runs n own m₁ next (ms ++ record { good = p.good; to = p.shelf } ∷ [])
  unfolding one_act
  runs_puts act p e s = runs_act act s ∙ rw e refl

  pub runs_done : (act : Act) → act ≡ Done → own.step m ev ≡ record { memory = m₁; act = act_of act } → runs k own m ev ms ≡ ran m₁ ms 0
  unfolding one_act
  runs_done act e s = runs_act act s ∙ rw e refl

  pub runs_refused : (act : Act) (why : Refusal) → act ≡ Refused why → own.step m ev ≡ record { memory = m₁; act = act_of act } →
      runs k own m ev ms ≡ ran m₁ ms (refusal_number why)
  unfolding one_act
  runs_refused act why e s = runs_act act s ∙ rw e (ap (ran m₁ ms) (told_number why))

pub runs_none : (k : ℕ) (m : List ℕ) (ev : Event) (ms : List Move) → k ≡ 0 → runs k own m ev ms ≡ ran m ms 1000
unfolding runs
runs_none k m ev ms e = rw e refl

pub runs_on : (k : ℕ) (m : List ℕ) (ps qs : List Spot) (p : Spot) (r : Ran) → qs ≡ ps ++ p ∷ [] →
    runs k own m next (moves_of ps ++ record { good = p.good; to = p.shelf } ∷ []) ≡ r → runs k own m next (moves_of qs) ≡ r
runs_on k m ps qs p r q h = rw (q, each_more {B = Move} (λ p. record { good = p.good; to = p.shelf }) ps p) h

pub start_runs : (n k : ℕ) (m : List ℕ) (ev : Event) (ps : List Spot) → n ≡ k → ps ≡ [] → runs n own m ev (moves_of ps) ≡ runs k own m ev []
unfolding each
start_runs n k m ev ps e q = rw (e, q) refl
