-- What each change makes of the loads that stand for the shelves.
use Rattle.std.proofs.Common.{◌≡◌, ℕ, ◌+◌, ◌<◌, ◌≤◌, true, false, not, eqb, ◌≢◌, List, [], ◌∷◌, ◌++◌, sym, ap, ◌∙◌, arith}
use Rattle.std.proofs.lemmas.Bool.Decides.{nat_tests}
use Rattle.std.proofs.lemmas.Bool.{eqb-false}
use Rattle.hall.specs.House.{has, those}
use Rattle.words.proofs.Cases.{by_same}
use Rattle.hall.proofs.Lists.{bit}
use Rattle.hall.proofs.Sets.{has_append, has_one, has_those}
use Rattle.machine.specs.Interfaces.{Parts, Laws, SetAt}
use Rattle.machine.specs.Relation.{Weighs}

pub rest_parts : (ks : List ℕ) (k j : ℕ) → has (those (λ j. not (eqb j k)) ks) j ≡ true → (has ks j ≡ true) × (j ≢ k)
rest_parts ks k j h =
    let a = has_those (λ j. not (eqb j k)) ks j in
    (grind arith, eqb-false j k (grind arith))

pub rest_from : (ks : List ℕ) (k j : ℕ) → has ks j ≡ true → j ≢ k → has (those (λ j. not (eqb j k)) ks) j ≡ true
rest_from ks k j h n = has_those (λ j. not (eqb j k)) ks j ∙ grind (arith, nat_tests)

pub push_old : (ks : List ℕ) (k j : ℕ) → has ks j ≡ true → has (ks ++ k ∷ []) j ≡ true
push_old ks k j h = has_append ks (k ∷ []) j ∙ grind arith

pub push_new : (ks : List ℕ) (k : ℕ) → has (ks ++ k ∷ []) k ≡ true
push_new ks k = has_append ks (k ∷ []) k ∙ grind (arith, nat_tests, has_one k k)

pub push_parts : (ks : List ℕ) (k j : ℕ) → has (ks ++ k ∷ []) j ≡ true → j ≢ k → has ks j ≡ true
push_parts ks k j h n = grind (arith, nat_tests, has_append ks (k ∷ []) j, has_one k j)

module _ (P : Parts) (Q : Laws P) where
  abbrev W : P.shelves.Rows → P.loads.Tree → List ℕ → (ℕ → ℕ) → Type 0
  W = Weighs P Q

  pub same_shelf : (r : P.shelves.Rows) (j k : ℕ) → Q.shelves.Sound r → 0 < P.shelves.find r k → P.shelves.find r j ≡ P.shelves.find r k → j ≡ k
  same_shelf r j k s p e = sym (Q.shelves.named r j s (rw e p)) ∙ ap (P.shelves.num r) e ∙ Q.shelves.named r k s p

  pub weigh_set : (r : P.shelves.Rows) (t u : P.loads.Tree) (os : List ℕ) (f f₁ : ℕ → ℕ) (k n : ℕ) → Q.shelves.Sound r → W r t os f → has os k ≡ true →
      SetAt P.loads Q.loads.Sound Q.loads.There t u (P.shelves.find r k) n × (Q.loads.There t (P.shelves.find r k) → Q.loads.There u (P.shelves.find r k)) → n ≡ f₁ k → ((j : ℕ) → j ≢ k → f₁ j ≡ f j) → W r u os f₁
  weigh_set r t u os f f₁ k n s w h c e o = record {
    sound = c.0.sound;
    slot = w.slot;
    there = λ j i. by_same j k (λ q. rw q (c.1 (w.there k h))) (λ q. (c.0.stay _ (apart j q)).0 (w.there j i));
    load = λ j i. by_same j k (λ q. rw q (c.0.here ∙ e)) (λ q. c.0.others _ (apart j q) ∙ w.load j i ∙ sym (o j q));
    no_other = λ x i. by_same x (P.shelves.find r k) (λ q. (k, h, sym q)) (λ q. w.no_other x ((c.0.stay x q).1 i));
  }
    where
      apart : (j : ℕ) → j ≢ k → P.shelves.find r j ≢ P.shelves.find r k
      apart j q x = q (same_shelf r j k s (w.slot k h) x)

  pub weigh_add : (r : P.shelves.Rows) (t : P.loads.Tree) (os : List ℕ) (f f₁ : ℕ → ℕ) (k : ℕ) → Q.shelves.Sound r → W r t os f → has os k ≡ true → f k ≤ 32768 →
      ((j : ℕ) → f₁ j ≡ f j + bit (eqb k j)) → W r (P.loads.add_one t (P.shelves.find r k)) os f₁
  weigh_add r t os f f₁ k s w h l e =
      weigh_set r t _ os f f₁ k _ s w h (Q.loads.adds t _ w.sound (w.slot k h) (Q.shelves.bounded r k s) (rw (w.load k h) (omega arith)))
      (let a = w.load k h in let b = e k in grind (arith, nat_tests)) (λ j q. let b = e j in grind (arith, nat_tests))

  pub weigh_take : (r : P.shelves.Rows) (t : P.loads.Tree) (os : List ℕ) (f f₁ : ℕ → ℕ) (k : ℕ) → Q.shelves.Sound r → W r t os f → has os k ≡ true →
      ((j : ℕ) → f₁ j + bit (eqb k j) ≡ f j) → W r (P.loads.take_one t (P.shelves.find r k)) os f₁
  weigh_take r t os f f₁ k s w h e =
      weigh_set r t _ os f f₁ k _ s w h (Q.loads.takes t _ w.sound (w.slot k h) (Q.shelves.bounded r k s))
      (let a = w.load k h in let b = e k in grind (arith, nat_tests)) (λ j q. let b = e j in grind (arith, nat_tests))

  pub weigh_leave : (r : P.shelves.Rows) (t : P.loads.Tree) (ks : List ℕ) (f : ℕ → ℕ) (k : ℕ) → Q.shelves.Sound r → W r t ks f → has ks k ≡ true →
      W r (P.loads.leave t (P.shelves.find r k)) (those (λ j. not (eqb j k)) ks) f
  weigh_leave r t ks f k s w h = record {
    sound = c.0.sound;
    slot = λ j i. w.slot j (rest_parts ks k j i).0;
    there = λ j i. (c.0.stay _ (apart j (rest_parts ks k j i).1)).0 (w.there j (rest_parts ks k j i).0);
    load = λ j i. c.0.others _ (apart j (rest_parts ks k j i).1) ∙ w.load j (rest_parts ks k j i).0;
    no_other = λ x i. by_same x (P.shelves.find r k) (λ q. absurd (c.1 (rw q at i))) (λ q. other x q (w.no_other x ((c.0.stay x q).1 i)));
  }
    where
      c : SetAt P.loads Q.loads.Sound Q.loads.There t (P.loads.leave t (P.shelves.find r k)) (P.shelves.find r k) 0 × (Q.loads.There (P.loads.leave t (P.shelves.find r k)) (P.shelves.find r k) → ⊥)
      c = Q.loads.leaves t _ w.sound (w.slot k h) (Q.shelves.bounded r k s)

      apart : (j : ℕ) → j ≢ k → P.shelves.find r j ≢ P.shelves.find r k
      apart j q x = q (same_shelf r j k s (w.slot k h) x)

      other : (x : ℕ) → x ≢ P.shelves.find r k → (j : ℕ) × (has ks j ≡ true) × (P.shelves.find r j ≡ x) → (j : ℕ) × (has (those (λ j. not (eqb j k)) ks) j ≡ true) × (P.shelves.find r j ≡ x)
      other x q o = (o.0, rest_from ks k o.0 o.1 (λ e. q (sym o.2 ∙ ap (P.shelves.find r) e)), o.2)

  pub weigh_enter : (r : P.shelves.Rows) (t : P.loads.Tree) (ks : List ℕ) (f : ℕ → ℕ) (k : ℕ) → Q.shelves.Sound r → W r t ks f → k < 18446744073709551616 → P.shelves.find r k ≡ 0 →
      P.shelves.count r < 1024 → f k ≡ 0 → W (P.shelves.insert r k) (P.loads.enter t (P.shelves.find (P.shelves.insert r k) k)) (ks ++ k ∷ []) f
  weigh_enter r t ks f k s w small none room z = record {
    sound = c.0.sound;
    slot = λ j i. by_same j k (λ q. rw q fresh) (λ q. rw (old j q) (w.slot j (push_parts ks k j i q)));
    there = λ j i. by_same j k (λ q. rw q c.1) (λ q. (c.0.stay _ (apart j q)).0 (rw (old j q) (w.there j (push_parts ks k j i q))));
    load = λ j i. by_same j k (λ q. rw q (c.0.here ∙ sym z)) (λ q. c.0.others _ (apart j q) ∙ ap (P.loads.load t) (old j q) ∙ w.load j (push_parts ks k j i q));
    no_other = λ x i. by_same x (P.shelves.find (P.shelves.insert r k) k) (λ q. (k, push_new ks k, sym q)) (λ q. other x (w.no_other x ((c.0.stay x q).1 i)));
  }
    where
      fresh : 0 < P.shelves.find (P.shelves.insert r k) k
      fresh = let t = Q.shelves.insert_takes r k s small none room in rw t.1 t.0

      s₁ : Q.shelves.Sound (P.shelves.insert r k)
      s₁ = Q.shelves.insert_sound r k s small none room

      c : SetAt P.loads Q.loads.Sound Q.loads.There t (P.loads.enter t (P.shelves.find (P.shelves.insert r k) k)) (P.shelves.find (P.shelves.insert r k) k) 0 × Q.loads.There (P.loads.enter t (P.shelves.find (P.shelves.insert r k) k)) (P.shelves.find (P.shelves.insert r k) k)
      c = Q.loads.enters t _ w.sound fresh (Q.shelves.bounded _ k s₁)

      old : (j : ℕ) → j ≢ k → P.shelves.find (P.shelves.insert r k) j ≡ P.shelves.find r j
      old j q = Q.shelves.insert_others r k j s small none room q

      apart : (j : ℕ) → j ≢ k → P.shelves.find (P.shelves.insert r k) j ≢ P.shelves.find (P.shelves.insert r k) k
      apart j q x = q (same_shelf (P.shelves.insert r k) j k s₁ fresh x)

      other : (x : ℕ) → (j : ℕ) × (has ks j ≡ true) × (P.shelves.find r j ≡ x) → (j : ℕ) × (has (ks ++ k ∷ []) j ≡ true) × (P.shelves.find (P.shelves.insert r k) j ≡ x)
      other x o = (o.0, push_old ks k o.0 o.1, old o.0 (λ e. let p = w.slot o.0 o.1 in let p₁ : P.shelves.find r o.0 ≡ 0 = ap (P.shelves.find r) e ∙ none in omega arith) ∙ o.2)

  pub weigh_drop : (r : P.shelves.Rows) (t : P.loads.Tree) (os : List ℕ) (f : ℕ → ℕ) (k : ℕ) → Q.shelves.Sound r → W r t os f → 0 < P.shelves.find r k → has os k ≡ false → W (P.shelves.remove r k) t os f
  weigh_drop r t os f k s w p h = record {
    sound = w.sound;
    slot = λ j i. rw (old j i) (w.slot j i);
    there = λ j i. rw (old j i) (w.there j i);
    load = λ j i. ap (P.loads.load t) (old j i) ∙ w.load j i;
    no_other = λ x i. let o = w.no_other x i in (o.0, o.1, old o.0 o.1 ∙ o.2);
  }
    where
      old : (j : ℕ) → has os j ≡ true → P.shelves.find (P.shelves.remove r k) j ≡ P.shelves.find r j
      old j i = Q.shelves.remove_others r k j s p (λ e. let x : has os k ≡ true = rw e at i in grind arith)

  pub weigh_same : (r : P.shelves.Rows) (t : P.loads.Tree) (os : List ℕ) (f f₁ : ℕ → ℕ) → W r t os f → ((j : ℕ) → has os j ≡ true → f₁ j ≡ f j) → W r t os f₁
  weigh_same r t os f f₁ w e = record { sound = w.sound; slot = w.slot; there = w.there; load = λ k h. w.load k h ∙ sym (e k h); no_other = w.no_other }

  pub emptiest_is : (r : P.shelves.Rows) (t : P.loads.Tree) (os : List ℕ) (f : ℕ → ℕ) (j : ℕ) → W r t os f → has os j ≡ true →
      (k : ℕ) × (P.shelves.find r k ≡ P.loads.emptiest t) × (has os k ≡ true) × ((i : ℕ) → has os i ≡ true → f k ≤ f i)
  emptiest_is r t os f j w h =
      let a = Q.loads.emptiest_least t _ w.sound (w.there j h) in
      let o = w.no_other _ a.0 in (
        o.0,
        o.2,
        o.1,
        λ i q. let b = (Q.loads.emptiest_least t _ w.sound (w.there i q)).1 in
            let x = w.load i q in let y = w.load o.0 o.1 in let z : P.loads.load t (P.shelves.find r o.0) ≡ P.loads.load t (P.loads.emptiest t) = ap (P.loads.load t) o.2 in omega arith,
      )

  pub fullest_is : (r : P.shelves.Rows) (t : P.loads.Tree) (os : List ℕ) (f : ℕ → ℕ) (j : ℕ) → W r t os f → has os j ≡ true →
      (k : ℕ) × (P.shelves.find r k ≡ P.loads.fullest t) × (has os k ≡ true) × ((i : ℕ) → has os i ≡ true → f i ≤ f k)
  fullest_is r t os f j w h =
      let a = Q.loads.fullest_most t _ w.sound (w.there j h) in
      let o = w.no_other _ a.0 in (
        o.0,
        o.2,
        o.1,
        λ i q. let b = (Q.loads.fullest_most t _ w.sound (w.there i q)).1 in
            let x = w.load i q in let y = w.load o.0 o.1 in let z : P.loads.load t (P.shelves.find r o.0) ≡ P.loads.load t (P.loads.fullest t) = ap (P.loads.load t) o.2 in omega arith,
      )
