-- The halls that are reached by telling commands from the empty hall on, and how a command is answered there.
use Rattle.std.specs.Prelude.{◌≡◌, ℕ, ◌<◌, List, [], ◌∷◌, length}
use Rattle.hall.specs.House.{Store, Command, comes, goes, shelf_comes, shelf_goes, where_is, Move, refusal, asks}
use Rattle.hall.specs.Promise.{EitherWay, then_store}
use Rattle.machine.specs.Acts.{puts_of, nothing, AllWords, memory_after, store_after}
use Rattle.placing_model.specs.Own.{own}

-- after these commands the machine's memory is m, and what was put makes the hall s
pub record Reached (m : List ℕ) (s : Store) : Type 0 where
  pub told : List Command
  pub words : AllWords told
  pub memory_is : m ≡ memory_after own own.start told
  pub store_is : s ≡ store_after own own.start nothing told

-- what a command is answered: all that was put, in this order; a refusal's number; or that it was not tried for want of memory
pub data Answer : Type 0 where
  putting : List Move → Answer
  refusing : ℕ → Answer
  wanting : Answer

-- the right answer to a command in the hall s: just the refusal that applies; or puts of which none is twice or where it stands, after which each good is
-- on one shelf that is there, no shelf has two more than another, and no hall that may be so has fewer moved; where-is tells the shelf
abbrev pub Answered : Store → Command → Answer → Type 0
Answered s c (putting ms) = (refusal s c ≡ 0) × EitherWay (asks c) s c ms × (length ms ≡ puts_of s c)
Answered s c (refusing k) = (0 < k) × (refusal s c ≡ k)
Answered s c wanting = Unit {0}

-- the hall after it
abbrev pub hall_then : Store → Command → Answer → Store
hall_then s c (putting ms) = then_store s c ms
hall_then s c (refusing k) = s
hall_then s c wanting = s

-- each command of a list is answered right in its turn, from the hall s on, which becomes t
unfoldable pub CarriedOut : Store → List Command → List Answer → Store → Type 0
CarriedOut s [] [] t = s ≡ t
CarriedOut s [] (a ∷ as₁) t = ⊥
CarriedOut s (c ∷ cs) [] t = ⊥
CarriedOut s (c ∷ cs) (a ∷ as₁) t = Answered s c a × CarriedOut (hall_then s c a) cs as₁ t

-- acts enough for a command: two for one that puts a good at most, else one for each good that there can be and two
abbrev pub acts_of : Command → ℕ
acts_of (comes g) = 2
acts_of (goes g) = 2
acts_of (shelf_comes k) = 32770
acts_of (shelf_goes k) = 32770
acts_of (where_is g) = 2
