-- Moving counted from either side, and through a third store.
use Rattle.std.proofs.Common.{◌≡◌, ℕ, ◌+◌, ◌≤◌, Bool, not, ◌&&◌, eqb, ap, ◌∙◌, arith}
use Rattle.std.proofs.lemmas.Bool.Decides.{nat_tests}
use Rattle.hall.specs.House.{has, Store, goods}
use Rattle.hall.specs.Greedy.{at}
use Rattle.hall.specs.Claims.{MovedAlike, MovedTriangle, MovedThrough}
use Rattle.hall.proofs.Lists.{count, all_of, all_from_has}
use Rattle.hall.proofs.Sets.{count_same_on, count_or, count_within, count_meet}
use Rattle.hall.proofs.Loads.{fine_parts}
use Rattle.hall.proofs.Moving.{moved_count}

apart : Store → Store → ℕ → Bool
apart s t g = not (eqb (at s.spots g) (at t.spots g))

pub moved_alike : MovedAlike
unfolding apart
moved_alike s t f e =
    let a = moved_count s t in
    let b = moved_count t s in
    let c = count_meet (apart s t) (goods s) (goods t) (fine_parts s f).goods_once (fine_parts t e).goods_once in
    let d : count (λ g. has (goods s) g && apart s t g) (goods t) ≡ count (λ g. has (goods s) g && apart t s g) (goods t) =
    count_same_on _ _ (goods t) (all_of _ (goods t) (λ g. grind (arith, nat_tests))) in
    omega arith

pub moved_triangle : MovedTriangle
unfolding apart
moved_triangle s t u f h =
    let x : count (λ g. has (goods u) g && apart s u g) (goods s) ≤
    count (λ g. has (goods t) g && apart s t g) (goods s) + count (λ g. has (goods t) g && (has (goods u) g && apart t u g)) (goods s) =
    count_or _ _ _ (goods s) (all_from_has _ (goods s) (λ g i. let y = h g i in grind (arith, nat_tests))) in
    let z = count_within (λ g. has (goods u) g && apart t u g) (goods s) (goods t) (fine_parts s f).goods_once in
    omega (arith, moved_count s u, moved_count s t, moved_count t u)

pub moved_through : MovedThrough
moved_through s t u fs ft fu e f = (moved_alike s t fs ft, moved_triangle s t u fs (λ g a b. ap (λ gs. has gs g) f ∙ b))
