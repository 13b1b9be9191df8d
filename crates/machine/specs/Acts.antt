-- How a command goes, act by act: it puts exactly as many goods as it has to, and then it is done.
use Rattle.std.specs.Prelude.{◌≡◌, ℕ, suc, ◌+◌, ◌<◌, true, List, [], ◌∷◌, length, ◌==◌, nat_lt}
use Rattle.hall.specs.House.{pick, every, Store, Command, Move, refusal, asks, fewest}
use Rattle.hall.specs.Claims.{arrivals}
use Rattle.hall.specs.Promise.{Engine, said, Ran, ran, runs, number_of, EitherWay, then_store}

-- how many goods a command puts: the fewest that have to move, and the one that comes; where a good is, is told by one
abbrev pub puts_of : Store → Command → ℕ
puts_of s c = pick (asks c) 1 (arrivals c + fewest s c)

-- a command carried out: after as many acts as it puts goods it is still under way, and one act later it is done
pub record Carried (e : Engine) (m : List ℕ) (s : Store) (c : Command) : Type 0 where
  pub moves : List Move
  pub memory : List ℕ
  pub short : (runs (length moves) e m (said c) []).end ≡ 1000
  pub whole : runs (suc (length moves)) e m (said c) [] ≡ ran memory moves 0
  pub count : length moves ≡ puts_of s c
  pub right : EitherWay (asks c) s c moves

-- a command is refused by one act and nothing has changed; or it is carried out
pub record Exact (e : Engine) (m : List ℕ) (s : Store) (c : Command) : Type 0 where
  pub refuses : 0 < refusal s c → runs 1 e m (said c) [] ≡ ran m [] (refusal s c)
  pub serves : refusal s c ≡ 0 → Carried e m s c

abbrev pub nothing : Store
nothing = record { shelves = []; spots = [] }

abbrev pub AllWords : List Command → Type 0
AllWords cs = every (λ c. nat_lt (number_of c) 18446744073709551616) cs ≡ true

-- a command's whole run: no command takes more acts
abbrev pub whole_run : Engine → List ℕ → Command → Ran
whole_run e m c = runs 32770 e m (said c) []

abbrev pub store_then : Engine → List ℕ → Store → Command → Store
store_then e m s c = pick (refusal s c == 0) (then_store s c (whole_run e m c).moves) s

-- memory and store after a list of commands
unfoldable pub memory_after : Engine → List ℕ → List Command → List ℕ
memory_after e m [] = m
memory_after e m (c ∷ cs) = memory_after e (whole_run e m c).memory cs

unfoldable pub store_after : Engine → List ℕ → Store → List Command → Store
store_after e m s [] = s
store_after e m s (c ∷ cs) = store_after e (whole_run e m c).memory (store_then e m s c) cs

-- after every list of commands, from the empty hall on, every command goes so
abbrev pub Exactly : Engine → Type 0
Exactly e =
    (cs : List Command) (c : Command) → AllWords cs → number_of c < 18446744073709551616 →
    Exact e (memory_after e e.start cs) (store_after e e.start nothing cs) c
