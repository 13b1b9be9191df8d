-- Four ways to cheat: a machine that does so, at every memory, doesn't keep the whole promise.
use Rattle.std.specs.Prelude.{◌≡◌, ℕ, List, ◌≢◌}
use Rattle.hall.specs.House.{where_is}
use Rattle.hall.specs.Promise.{Event, said, puts, done, refused, Engine, Whole}

-- the table of cheats
pub record Cheats : Type 0 where
  -- a machine that refuses whatever it is told, at every memory: the first shelf that comes may not be refused
  pub refuses_all : (e : Engine) → ((m : List ℕ) (ev : Event) → (k : ℕ) × ((e.step m ev).act ≡ refused k)) → Whole e → ⊥
  -- a machine that never ends as done: a command that isn't refused has to end so
  pub never_ends : (e : Engine) → ((m : List ℕ) (ev : Event) → (e.step m ev).act ≢ done) → Whole e → ⊥
  -- a machine that puts every good on the same shelf: with two goods and two shelves, each shelf has to have one
  pub one_shelf : (e : Engine) (k : ℕ) → ((m : List ℕ) (ev : Event) (g j : ℕ) → (e.step m ev).act ≡ puts g j → j ≡ k) → Whole e → ⊥
  -- a machine whose answer to where a good is is the same at every memory: the good was put on the one shelf there was, which may be any
  pub forgets : (e : Engine) → ((m m₁ : List ℕ) (g : ℕ) → (e.step m (said (where_is g))).act ≡ (e.step m₁ (said (where_is g))).act) → Whole e → ⊥
