-- A run of a command, from a hall that is reached, is answered right, and reaches the hall after it.
use Rattle.std.proofs.Common.{◌≡◌, ℕ, suc, ◌<◌, List, [], ◌∷◌, ◌++◌, length, sym, refl, ap, ◌∙◌, subst, arith, lit<}
use Rattle.std.proofs.lemmas.Bool.{eq-eqb}
use Rattle.words.proofs.Cases.{by_order}
use Rattle.hall.specs.House.{every, Store, Command, comes, goes, shelf_comes, shelf_goes, where_is, Move, refusal, asks, fewest}
use Rattle.hall.specs.Claims.{arrivals}
use Rattle.hall.specs.Promise.{said, Ran, ran, runs, number_of, then_store}
use Rattle.machine.specs.Acts.{puts_of, Carried, nothing, whole_run, memory_after, store_after}
use Rattle.machine.proofs.Acts.{Good, start_good, after_good, serves_good, refuses_good, whole_serves, runs_same, ended, puts_bound, memory_more, store_more, words_more}
use Rattle.machine.proofs.Refines.{refusal_small}
use Rattle.placing_model.specs.Parts.{parts}
use Rattle.placing_model.specs.Own.{own}
use Rattle.placing_model.specs.Reached.{Reached, Answer, putting, refusing, Answered, hall_then, CarriedOut, acts_of}
use Rattle.placing_model.proofs.Laws.{lawful}
use Rattle.placing_model.proofs.Own.{own_lifts}

-- a memory that is reached holds its hall
reached_good : (m : List ℕ) (s : Store) → Reached m s → Good parts lawful own own_lifts m s
reached_good m s r = rw (r.memory_is, r.store_is) (after_good parts lawful own own_lifts r.told own.start nothing (start_good parts lawful own own_lifts) r.words)

pub reached_start : Reached own.start nothing
unfolding every memory_after store_after
reached_start = record { told = []; words = refl; memory_is = refl; store_is = refl }

-- the acts are enough
acts_enough : (m : List ℕ) (s : Store) (c : Command) → Good parts lawful own own_lifts m s → puts_of s c < acts_of c
unfolding asks arrivals fewest
acts_enough m s (comes g) h = omega arith
acts_enough m s (goes g) h = grind arith
acts_enough m s (shelf_comes k) h = let b = puts_bound s (shelf_comes k) h.keeps.holds.shows.stands.goods_room in omega arith
acts_enough m s (shelf_goes k) h = let b = puts_bound s (shelf_goes k) h.keeps.holds.shows.stands.goods_room in omega arith
acts_enough m s (where_is g) h = omega arith

-- one command more is reached
reached_more : (m : List ℕ) (s : Store) (c : Command) → (r : Reached m s) → number_of c < 18446744073709551616 → refusal s c ≡ 0 →
    (v : Carried own m s c) → Reached v.memory (then_store s c v.moves)
reached_more m s c r n z v =
    let w = whole_serves parts lawful own own_lifts m s c (reached_good m s r) v in
    record {
      told = r.told ++ c ∷ [];
      words = words_more r.told c r.words n;
      memory_is = sym (memory_more own own.start r.told c ∙ ap (λ m. (whole_run own m c).memory) (sym r.memory_is) ∙ ap (λ (r : Ran). r.memory) w);
      store_is = sym (store_more own own.start nothing r.told c ∙ rw (← r.memory_is, ← r.store_is, eq-eqb _ _ z, w) refl);
    }

-- how a run that has acts enough ends
module _ (m m₁ : List ℕ) (s : Store) (c : Command) (ms : List Move) (k : ℕ) (r : Reached m s) (n : number_of c < 18446744073709551616) (run : runs (acts_of c) own m (said c) [] ≡ ran m₁ ms k) where
  served : (z : refusal s c ≡ 0) → (v : Carried own m s c) → ran m₁ ms k ≡ ran v.memory v.moves 0
  served z v =
      let g = reached_good m s r in
      let b = acts_enough m s c g in
      let e = v.count in
      sym run ∙ runs_same own (suc (length v.moves)) (acts_of c) m (said c) [] (ended _ _ _ 0 v.whole (lit< tt)) (omega arith) ∙ v.whole

  refused : 0 < refusal s c → ran m₁ ms k ≡ ran m [] (refusal s c)
  refused h =
      let g = reached_good m s r in
      let b = acts_enough m s c g in
      let t = refuses_good parts lawful own own_lifts m s c g n h in
      sym run ∙ runs_same own 1 (acts_of c) m (said c) [] (ended _ _ _ (refusal s c) t (refusal_small s c)) (omega arith) ∙ t

  pub run_done : k ≡ 0 → Answered s c (putting ms) × Reached m₁ (then_store s c ms)
  run_done e =
      by_order 0 (refusal s c)
      (λ h. let q = ap (λ (r : Ran). r.end) (refused h) in absurd (omega arith))
      (λ h. let z : refusal s c ≡ 0 = omega arith in
      let v = (serves_good parts lawful own own_lifts m s c (reached_good m s r) n z).carried in
      let q = served z v in
      let a : ms ≡ v.moves = ap (λ (r : Ran). r.moves) q in
      let b : m₁ ≡ v.memory = ap (λ (r : Ran). r.memory) q in
      rw (a, b) ((z, v.right, v.count), reached_more m s c r n z v))

  pub run_refused : 0 < k → Answered s c (refusing k) × (m₁ ≡ m)
  run_refused h =
      by_order 0 (refusal s c)
      (λ p. let q = refused p in ((h, sym (ap (λ (r : Ran). r.end) q)), ap (λ (r : Ran). r.memory) q))
      (λ p. let z : refusal s c ≡ 0 = omega arith in
      let v = (serves_good parts lawful own own_lifts m s c (reached_good m s r) n z).carried in
      let q = ap (λ (r : Ran). r.end) (served z v) in absurd (omega arith))

  pub run_ends : k ≡ 1000 → ⊥
  run_ends e = let a = (run_refused (omega arith)).0.1 in let b = refusal_small s c in omega arith

-- one command more at the end of a list
pub carried_more : (s : Store) (cs : List Command) (as₁ : List Answer) (t : Store) (c : Command) (a : Answer) → CarriedOut s cs as₁ t → Answered t c a →
    CarriedOut s (cs ++ c ∷ []) (as₁ ++ a ∷ []) (hall_then t c a)
unfolding CarriedOut
carried_more s [] [] t c a h r = subst (λ x. Answered x c a × (hall_then x c a ≡ hall_then t c a)) (sym h) (r, refl)
carried_more s [] (b ∷ as₁) t c a h r = absurd h
carried_more s (d ∷ cs) [] t c a h r = absurd h
carried_more s (d ∷ cs) (b ∷ as₁) t c a h r = (h.0, carried_more (hall_then s d b) cs as₁ t c a h.1 r)

pub carried_none : (s : Store) → CarriedOut s [] [] s
unfolding CarriedOut
carried_none s = refl
