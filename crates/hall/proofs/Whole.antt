-- As few as can be, in numbers; and a shelf that comes and goes.
use Rattle.std.proofs.Common.{◌≡◌, false, refl, arith}
use Rattle.std.proofs.lemmas.Bool.Decides.{nat_tests}
use Rattle.hall.specs.House.{has, shelf_comes, fewest, refusal, asks, after}
use Rattle.hall.specs.Claims.{Changed, FewestRight, InAndOut}
use Rattle.hall.proofs.Loads.{fine_parts}
use Rattle.hall.proofs.Lower.{may_parts, fewest_lower, new_share, new_moved}
use Rattle.hall.proofs.Right.{greedy_right}
use Rattle.hall.proofs.Can.{greedy_can}

pub fewest_right : FewestRight
unfolding Changed
fewest_right s c f l r a = (
  fewest_lower s c f r,
  (let d = greedy_can s c f l r a in
      let e = greedy_right s c d.0 f l r a d.1 in
      (after s c d.0, e.0.0, e.1)),
)

pub in_and_out : InAndOut
unfolding Changed fewest refusal asks
in_and_out s k ms f l r C =
    let out : has s.shelves k ≡ false = grind arith in
    let t = after s (shelf_comes k) ms in
    let M = may_parts s (shelf_comes k) t C.0 in
    let x = new_share s t k (fine_parts s f) (fine_parts t M.is_fine) M out in
    let y = new_moved s t k (fine_parts s f) (fine_parts t M.is_fine) M out in
    let u = (fewest_right s (shelf_comes k) f l r refl).1 in
    let z = C.3 u.0 u.1 in
    let w = u.2 in
    grind (arith, nat_tests)
