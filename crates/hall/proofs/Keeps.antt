-- A machine that is greedy at each command keeps its promise.
use Rattle.std.proofs.Common.{◌≡◌, ℕ, Bool, true, false, ltb, List, [], ◌∷◌, refl, arith}
use Rattle.hall.specs.House.{every, fine, level, Store, Command, refusal, asks, Move, after, distinct, each}
use Rattle.hall.specs.Claims.{Changed}
use Rattle.hall.specs.Promise.{Engine, Right, Whole, Serves, Greedily, GreedyKeeps, GreedyKeepsBy, EitherGreedy, EitherWay, Asked, then_store, number_of}
use Rattle.hall.proofs.Lower.{may_parts}
use Rattle.hall.proofs.Right.{greedy_right}

-- the store after a command that is served is fine and level, and its moves are right
pub record Next (s : Store) (c : Command) (ms : List Move) : Type 0 where
  pub way : EitherWay (asks c) s c ms
  pub is_fine : fine (then_store s c ms) ≡ true
  pub is_level : level (then_store s c ms) ≡ true

pub next_of : (s : Store) (c : Command) (ms : List Move) (b : Bool) → asks c ≡ b → fine s ≡ true → level s ≡ true → refusal s c ≡ 0 → EitherGreedy b s c ms → Next s c ms
unfolding EitherWay Asked Changed
next_of s c ms true a f l r g = record { way = rw a g; is_fine = rw a f; is_level = rw a l }
next_of s c ms false a f l r g =
    let d = greedy_right s c ms f l r a g in
    let m = may_parts s c (after s c ms) d.0.0 in
    record { way = rw a d.0; is_fine = rw a m.is_fine; is_level = rw a m.is_level }

-- a list of commands that is served greedily is carried out right
right_greedily : (e : Engine) (cs : List Command) (m : List ℕ) (s : Store) → fine s ≡ true → level s ≡ true → Greedily e m s cs → Right e m s cs
unfolding Right Greedily
right_greedily e [] m s f l v = refl
right_greedily e (c ∷ cs) m s f l v = (
  v.0,
  (
    (λ r. let w = v.1.0 r in (w.0, w.1, right_greedily e cs _ s f l w.2)),
    (λ r. let w = v.1.1 r in let x = next_of s c _ (asks c) refl f l r w.1 in (w.0, x.way, right_greedily e cs _ _ x.is_fine x.is_level w.2)),
  ),
)

module _ (e : Engine) (Holds : List ℕ → Store → Type 0)
    (serves : (m : List ℕ) (s : Store) (c : Command) → Holds m s → fine s ≡ true → level s ≡ true → ltb (number_of c) 18446744073709551616 ≡ true → Serves Holds e m s c) where
  greedily_from : (cs : List Command) (m : List ℕ) (s : Store) → Holds m s → fine s ≡ true → level s ≡ true →
      every (λ c. ltb (number_of c) 18446744073709551616) cs ≡ true → Greedily e m s cs
  unfolding Greedily every
  greedily_from [] m s h f l k = refl
  greedily_from (c ∷ cs) m s h f l k =
      let v = serves m s c h f l (grind arith) in
      let k₁ : every (λ c. ltb (number_of c) 18446744073709551616) cs ≡ true = grind arith in (
        v.0,
        (
          (λ r. let w = v.1.0 r in (w.0, w.1, greedily_from cs _ s w.2 f l k₁)),
          (λ r. let w = v.1.1 r in let x = next_of s c _ (asks c) refl f l r w.1 in (w.0, w.1, greedily_from cs _ _ w.2 x.is_fine x.is_level k₁)),
        ),
      )

  pub right_from : (cs : List Command) (m : List ℕ) (s : Store) → Holds m s → fine s ≡ true → level s ≡ true →
      every (λ c. ltb (number_of c) 18446744073709551616) cs ≡ true → Right e m s cs
  right_from cs m s h f l k = right_greedily e cs m s f l (greedily_from cs m s h f l k)

pub greedy_keeps : GreedyKeeps
unfolding Whole distinct every each
greedy_keeps e st v = (st, λ cs k. right_greedily e cs e.start _ refl refl (v cs k))

pub greedy_keeps_by : (Holds : List ℕ → Store → Type 0) → GreedyKeepsBy Holds
unfolding distinct every each
greedy_keeps_by Holds e st h serves = greedy_keeps e st (λ cs k. greedily_from e Holds serves cs e.start _ h refl refl k)
