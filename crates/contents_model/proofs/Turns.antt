-- How long a walk is at most.
use Rattle.std.proofs.Common.{ℕ, zero, suc, ◌≤◌, eqb, List, [], ◌∷◌, length, arith}
use Rattle.std.proofs.lemmas.Bool.{cond_both}
use Rattle.contents_model.specs.Model.{rows, next_at, first_at, walk_from, walk}

from_short : (next : ℕ → ℕ) (k g : ℕ) → length (walk_from next k g) ≤ k
unfolding walk_from
from_short next zero g = omega arith
from_short next (suc k) g =
    cond_both (eqb g 0) [] (g ∷ walk_from next k (next g)) (λ t. length t ≤ suc k) (λ e. omega arith) (λ e. omega (arith, from_short next k (next g)))

pub walk_short : (m : List ℕ) (s : ℕ) → length (walk m s) ≤ length m
unfolding walk rows
walk_short m s = omega (arith, from_short (next_at m) (rows m) (first_at m s))
