-- What a machine has to keep for every list of commands, and what is enough for that.
use Rattle.std.specs.Prelude.{◌≡◌, ℕ, zero, suc, ◌<◌, ◌≤◌, Bool, true, false, ◌&&◌, ltb, List, [], ◌∷◌, ◌++◌, length, nat_eq, nat_le, nat_lt}
use Rattle.hall.specs.House.{pick, every, Store, fine, level, Command, comes, goes, shelf_comes, shelf_goes, where_is, refusal, Move, after, told, asks}
use Rattle.hall.specs.Greedy.{Greedy}
use Rattle.hall.specs.Claims.{Changed}

-- what a machine is told: a command, or to go on with it
pub data Event : Type 0 where
  said : Command → Event
  next : Event

-- what it does in one step: put a good on a shelf, end as done, or refuse with a number
pub data Act : Type 0 where
  puts : ℕ → ℕ → Act
  done : Act
  refused : ℕ → Act

-- one step: the memory afterwards, and the act
pub record Step : Type 0 where
  pub memory : List ℕ
  pub act : Act

-- a machine: its memory at the start, and its step
pub record Engine : Type 0 where
  pub start : List ℕ
  pub step : List ℕ → Event → Step

-- how a command went: what was put where, and the end: 0 done, a refusal, 1000 still at it, 1001 a fault
pub record Ran : Type 0 where
  pub memory : List ℕ
  pub moves : List Move
  pub end : ℕ

-- such a run, from its three parts
abbrev pub ran : List ℕ → List Move → ℕ → Ran
ran m ms e = record { memory = m; moves = ms; end = e }

-- a run after one act: it goes on after a put, and ends with done or a refusal, whose number has to be 1 to 999
unfoldable pub one_act : (List ℕ → List Move → Ran) → List Move → List ℕ → Act → Ran
one_act go ms m (puts g k) = go m (ms ++ record { good = g; to = k } ∷ [])
one_act go ms m done = ran m ms 0
one_act go ms m (refused k) = ran m ms (pick (nat_le 1 k && nat_lt k 1000) k 1001)

-- at most so many steps, beginning with this event
unfoldable pub runs : ℕ → Engine → List ℕ → Event → List Move → Ran
runs zero e m ev ms = ran m ms 1000
runs (suc n) e m ev ms = one_act (λ m₁ ms₁. runs n e m₁ next ms₁) ms (e.step m ev).memory (e.step m ev).act

-- all numbers are below 2 ^ 64
unfoldable pub all_small : List ℕ → Bool
all_small ms = every (λ m. ltb m 18446744073709551616) ms

-- memory is at most 262,144 numbers, all 0 at the start; it never grows, nor do its numbers beyond 64 bits
unfoldable pub Steady : Engine → Type 0
Steady e =
    (length e.start ≤ 262144) × (every (λ m. nat_eq m 0) e.start ≡ true)
    × ((m : List ℕ) (ev : Event) → (length (e.step m ev).memory ≡ length m) × (all_small m ≡ true → all_small (e.step m ev).memory ≡ true))

-- the number of the good or shelf that a command is about
unfoldable pub number_of : Command → ℕ
number_of (comes g) = g
number_of (goes g) = g
number_of (shelf_comes k) = k
number_of (shelf_goes k) = k
number_of (where_is g) = g

-- what is put in answer to a question
unfoldable pub Asked : Store → Command → List Move → Type 0
Asked s c ms = ms ≡ told s c

-- what is put is right: an answer where the command asks, else a change with as few moved as can be
unfoldable pub EitherWay : Bool → Store → Command → List Move → Type 0
EitherWay true s c ms = Asked s c ms
EitherWay false s c ms = Changed s c ms

-- the store after a command that is not refused
abbrev pub then_store : Store → Command → List Move → Store
then_store s c ms = pick (asks c) s (after s c ms)

-- the main promise, for every list of commands: each ends as it should, a refusal puts nothing and changes nothing, and after a change no shelf has two
-- more than another, and as few goods were moved as can be
unfoldable pub Right : Engine → List ℕ → Store → List Command → Type 0
Right e m s [] = zero ≡ zero
Right e m s (c ∷ cs) =
    (n : ℕ)
    × ((0 < refusal s c → ((runs n e m (said c) []).end ≡ refusal s c) × ((runs n e m (said c) []).moves ≡ []) × Right e (runs n e m (said c) []).memory s cs)
    × (refusal s c ≡ 0 →
    ((runs n e m (said c) []).end ≡ 0) × EitherWay (asks c) s c (runs n e m (said c) []).moves
    × Right e (runs n e m (said c) []).memory (then_store s c (runs n e m (said c) []).moves) cs))

-- the whole promise: a steady memory, and the main promise from the empty store on
unfoldable pub Whole : Engine → Type 0
Whole e =
    Steady e
    × ((cs : List Command) → every (λ c. ltb (number_of c) 18446744073709551616) cs ≡ true →
    Right e e.start (record { shelves = []; spots = [] }) cs)

-- what is put: an answer where the command asks, else greedy moves
abbrev pub EitherGreedy : Bool → Store → Command → List Move → Type 0
EitherGreedy true s c ms = ms ≡ told s c
EitherGreedy false s c ms = Greedy s c ms

-- from a memory that holds the store, the run of one command ends as it should, is greedy, and leaves a memory that holds the store afterwards
abbrev pub Serves : (List ℕ → Store → Type 0) → Engine → List ℕ → Store → Command → Type 0
Serves Holds e m s c =
    (n : ℕ)
    × ((0 < refusal s c → ((runs n e m (said c) []).end ≡ refusal s c) × ((runs n e m (said c) []).moves ≡ []) × Holds (runs n e m (said c) []).memory s)
    × (refusal s c ≡ 0 →
    ((runs n e m (said c) []).end ≡ 0) × EitherGreedy (asks c) s c (runs n e m (said c) []).moves
    × Holds (runs n e m (said c) []).memory (then_store s c (runs n e m (said c) []).moves)))

-- each command of the list is served so, from the first on
unfoldable pub Greedily : Engine → List ℕ → Store → List Command → Type 0
Greedily e m s [] = zero ≡ zero
Greedily e m s (c ∷ cs) = Serves (λ m₁ s₁. Greedily e m₁ s₁ cs) e m s c

-- a steady machine that serves every list of commands greedily keeps the whole promise
abbrev pub GreedyKeeps : Type 0
GreedyKeeps =
    (e : Engine) → Steady e →
    ((cs : List Command) → every (λ c. ltb (number_of c) 18446744073709551616) cs ≡ true → Greedily e e.start (record { shelves = []; spots = [] }) cs) →
    Whole e

-- the same with an invariant: the memory at the start holds the empty store, and each command is served from a memory that holds a fine and level store
abbrev pub GreedyKeepsBy : (List ℕ → Store → Type 0) → Type 0
GreedyKeepsBy Holds =
    (e : Engine) → Steady e → Holds e.start (record { shelves = []; spots = [] }) →
    ((m : List ℕ) (s : Store) (c : Command) → Holds m s → fine s ≡ true → level s ≡ true → nat_lt (number_of c) 18446744073709551616 ≡ true → Serves Holds e m s c) →
    Whole e
