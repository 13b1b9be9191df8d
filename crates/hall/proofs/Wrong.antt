-- The rules that fail do: their stores compute.
use Rattle.std.proofs.Common.{◌≡◌, ◌<◌, true, false, List, [], ◌∷◌, length, refl, ap, arith}
use Rattle.std.proofs.lemmas.Bool.{both_ways}
use Rattle.hall.specs.House.{put, every, any, those, each, none_of, distinct, shelf_of, same_one, goods_after, shelves_after, put_spot, put_all, left_spots, refusal, fewest, asks, Store, moved, Move, after, fine, level, Command, shelf_comes}
use Rattle.hall.specs.Claims.{Changed}
use Rattle.hall.specs.Wrong.{Wrong, two_each, six_on_two, six_on_three}
use Rattle.hall.proofs.Changes.{puts_count}

too_many : (s : Store) (c : Command) (ms : List Move) (t : Store) → after s c ms ≡ t → fine s ≡ true → level s ≡ true → refusal s c ≡ 0 → asks c ≡ false →
    fewest s c < length (moved s t) → Changed s c ms → ⊥
too_many s c ms t e f l r a h C =
    let x = (puts_count s c ms f l r a C).0 in
    let y : length (moved s (after s c ms)) ≡ length (moved s t) = ap (λ (t : Store). length (moved s t)) e in
    omega arith

pub wrong : Wrong
unfolding every any those each none_of distinct shelf_of same_one goods_after shelves_after put_spot put_all left_spots refusal fewest asks Changed
wrong = record {
  anew_by_remainders = (refl, (λ ms e. (refl, refl, refl, too_many six_on_two (shelf_comes 30) ms six_on_three e refl refl refl refl (omega arith))), refl, refl);
  share_of_one = ((refl, refl, refl, λ C. both_ways _ refl C.0), refl);
  all_to_emptiest = ((refl, refl, refl, λ C. both_ways _ refl C.0), refl);
  one_too_many = ((refl, refl, refl, too_many two_each (shelf_comes 30) (put 1 30 ∷ put 3 30 ∷ []) _ refl refl refl refl refl (omega arith)), refl, refl, refl);
  put_twice = ((refl, refl, refl, λ C. both_ways _ refl C.1), (refl, refl), refl);
  put_where_it_stands = ((refl, refl, refl, λ C. both_ways _ refl C.2), (refl, refl), refl);
}
