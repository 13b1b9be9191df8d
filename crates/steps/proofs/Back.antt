-- What is written is read back.
use Rattle.std.proofs.Common.{◌≡◌, ℕ, ◌<◌, ◌≤◌, List, [], ◌∷◌, ◌++◌, length, Some, Ok, refl, ap, ◌∙◌, arith}
use Rattle.std.proofs.lemmas.Bool.Decides.{nat_tests}
use Rattle.hall.specs.Promise.{number_of}
use Rattle.placing.specs.Acts.{command_of, kind_number, kind_in}
use Rattle.placing.specs.declared.acts.Command.{Command}
use Rattle.placing.specs.declared.acts.Command.TheVariants.{GoodComes, GoodGoes, ShelfComes, ShelfGoes, WhereIs}
use Rattle.steps.specs.Format.{bytes_of, value, written, written_all, command_for, next_in, RoundTrip}

value_back : (k n : ℕ) (xs : List ℕ) → n < 18446744073709551616 → value ((k ∷ bytes_of n) ++ xs) ≡ n
value_back k n xs h = omega arith

full_step : (c : Command) (xs : List ℕ) → next_in (written c ++ xs) ≡ Some (command_for (kind_number (kind_in c)) (value (written c ++ xs)))
full_step c xs = let h : 9 ≤ length (written c ++ xs) = omega arith in grind (arith, nat_tests)

reads_back : (c : Command) (xs : List ℕ) → number_of (command_of c) < 18446744073709551616 → next_in (written c ++ xs) ≡ Some (Ok c)
unfolding number_of
reads_back (GoodComes n) xs h = full_step (GoodComes n) xs ∙ ap (λ v. Some (Ok (GoodComes v))) (value_back 0 n xs h)
reads_back (GoodGoes n) xs h = full_step (GoodGoes n) xs ∙ ap (λ v. Some (Ok (GoodGoes v))) (value_back 1 n xs h)
reads_back (ShelfComes n) xs h = full_step (ShelfComes n) xs ∙ ap (λ v. Some (Ok (ShelfComes v))) (value_back 2 n xs h)
reads_back (ShelfGoes n) xs h = full_step (ShelfGoes n) xs ∙ ap (λ v. Some (Ok (ShelfGoes v))) (value_back 3 n xs h)
reads_back (WhereIs n) xs h = full_step (WhereIs n) xs ∙ ap (λ v. Some (Ok (WhereIs v))) (value_back 4 n xs h)

pub round_trip : RoundTrip
round_trip [] h = refl
round_trip (c ∷ cs) h = (reads_back c (written_all cs) h.0, round_trip cs h.1)
