-- What is found in a sound index, and how many numbers there are; what a refused change leaves.
use Rattle.std.proofs.Common.{◌≡◌, ℕ, ◌^◌, ◌<◌, eqb, [], sym, ap, ◌∙◌, subst, inl, inr, arith}
use Rattle.std.proofs.lemmas.Bool.{cond-true, cond-false, eq-eqb, ne_eqb}
use Rattle.std.proofs.lemmas.Bool.Decides.{nat_tests}
use Rattle.index_model.specs.Model.{word, slot_of, slot_at, number_at, fresh_at, free_at, count_at, locate_in, slot_for, find_at, slot_to, insert_slot, insert_in, remove_in}
use Rattle.index_model.specs.Sound.{Inside}
use Rattle.index_model.specs.Laws.{EmptyLaw, FoundLaw, ApartLaw, CountLaw, RefuseLaw}
use Rattle.index_model.proofs.Steps.{slot_in}
use Rattle.index_model.proofs.Paths.{same_number, find_cases, find_used}
use Rattle.index_model.proofs.Chains.{each, length_each, each_in, each_of, each_once}

pub empty_law : EmptyLaw
unfolding find_at slot_at slot_of fresh_at free_at count_at
empty_law bits m zeros =
    let none : (p : ℕ) → slot_at bits m p ≡ 0 = λ p. ap (slot_of bits m) (zeros (word bits p)) ∙ sym (slot_in bits m 0 (omega arith)) in
    record {
      sound = record {
        hang = λ p u. absurd (u (none p));
        low = λ p. omega (arith, none p);
        top = omega (arith, zeros 0);
        uses = [];
        used = λ p u. absurd (u (none p));
        hung = λ s i. absurd i;
        once = tt;
        count = zeros 2;
        chain = [];
        linked = ap (slot_of bits m) (zeros 1) ∙ sym (slot_in bits m 0 (omega arith));
        counts = zeros 0;
      };
      bare = λ n. none _;
      none = zeros 2;
    }

pub found_law : FoundLaw
unfolding find_at
found_law bits m n sound some =
    let u : slot_for bits m n ≡ 0 → ⊥ = λ z. omega arith in
    elim (find_cases bits (slot_at bits m) (number_at bits m) sound.hang n) [
      | inl z ↦ absurd (u z)
      | inr e ↦ record { number = e; fits = subst (λ (x : ℕ). x < 2 ^ 64) e (sound.hang (locate_in bits m n) u).fits }
    ]

pub apart_law : ApartLaw
apart_law bits m n k sound some e =
    sym (found_law bits m n sound some).number ∙ ap (number_at bits m) e ∙ (found_law bits m k sound (omega arith)).number

pub count_law : CountLaw
unfolding find_at
count_law bits m sound =
    let num = number_at bits m in
    let tree = sound.hang in
    record {
      numbers = each num sound.uses;
      once = each_once num sound.uses sound.once (λ x y i j e.
          (let p = sound.hung x i in
          let q = sound.hung y j in
          let same = same_number bits (slot_at bits m) num tree p.1.0 q.1.0 (λ z. omega (arith, p.0, p.1.1, z)) (λ z. omega (arith, q.0, q.1.1, z))
          (ap num p.1.1 ∙ e ∙ sym (ap num q.1.1)) in
          sym p.1.1 ∙ ap (slot_at bits m) same ∙ q.1.1));
      found = λ n i.
          (let r = each_of num n sound.uses i in
          let p = sound.hung r.0 r.1.0 in
          let held : num (slot_at bits m p.1.0) ≡ n = ap num p.1.1 ∙ sym r.1.1 in
          let u : slot_at bits m p.1.0 ≡ 0 → ⊥ = λ z. omega (arith, p.0, p.1.1, z) in
          omega (arith, find_used bits (slot_at bits m) num tree n p.1.0 u held ∙ p.1.1, p.0));
      all = λ n some.
          subst (λ (x : ℕ). Inside x (each num sound.uses)) (found_law bits m n sound some).number
          (each_in num (slot_for bits m n) sound.uses (sound.used (locate_in bits m n) (λ z. omega arith)));
      count = sound.count ∙ sym (length_each num sound.uses);
      room = omega arith;
    }

pub refuse_law : RefuseLaw
unfolding find_at insert_slot insert_in remove_in
refuse_law bits m n =
    record {
      there = λ some. cond-false (eqb (slot_for bits m n) 0) _ _ (ne_eqb _ _ (λ z. omega arith));
      full = λ h. grind (arith, nat_tests);
      same = λ e. cond-true (eqb (slot_to bits m n) 0) _ _ (eq-eqb _ _ e);
      absent = λ e. cond-true (eqb (slot_for bits m n) 0) _ _ (eq-eqb _ _ e);
    }
