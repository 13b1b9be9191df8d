-- What each change makes of the rows and contents that stand for goods on shelves.
use Rattle.std.proofs.Common.{◌≡◌, ℕ, suc, ◌<◌, ◌≤◌, Bool, true, false, not, eqb, ltb, leb, ◌≢◌, List, [], ◌∷◌, ◌++◌, length, sym, refl, ap, ◌∙◌, arith, length-append}
use Rattle.std.proofs.lemmas.Bool.Decides.{nat_tests}
use Rattle.std.proofs.lemmas.Bool.{lt-ltb, ltb-true, ltb-false, ne_eqb, le-leb, lt-leb}
use Rattle.hall.specs.House.{has, those, distinct, Spot, put_spot}
use Rattle.hall.specs.Greedy.{on, at, goods_of}
use Rattle.words.proofs.Cases.{by_test, by_order, by_same}
use Rattle.hall.proofs.Sets.{has_those, count_split, count_at, count_all}
use Rattle.hall.proofs.Moving.{length_each}
use Rattle.hall.proofs.Puts.{put_goods, put_at, put_goods_new, without, without_goods, without_at}
use Rattle.hall.proofs.Can.{good_on}
use Rattle.machine.specs.Interfaces.{Index, IndexLaws, Parts, Laws}
use Rattle.machine.specs.Relation.{Stands}
use Rattle.machine.proofs.Weighing.{rest_parts, rest_from, push_old, push_new, push_parts, same_shelf}

-- one of a list with no two alike is left out
pub one_less : (xs : List ℕ) (k : ℕ) → distinct xs ≡ true → has xs k ≡ true → suc (length (those (λ j. not (eqb j k)) xs)) ≡ length xs
one_less xs k d h =
    let a = count_split (λ j. true) (λ j. eqb j k) xs in
    let b = count_at (λ j. true) k xs d h in
    omega (arith, count_all xs)

pub put_length_new : (ps : List Spot) (g k : ℕ) → has (goods_of ps) g ≡ false → length (put_spot ps g k) ≡ suc (length ps)
put_length_new ps g k h =
    let a : length (goods_of (put_spot ps g k)) ≡ length (goods_of ps ++ g ∷ []) = ap length (put_goods_new ps g k h) in
    omega (arith, length_each (λ p. p.good) ps, length_each (λ p. p.good) (put_spot ps g k), length-append (goods_of ps) (g ∷ []))

pub put_length : (ps : List Spot) (g k : ℕ) → has (goods_of ps) g ≡ true → length (put_spot ps g k) ≡ length ps
put_length ps g k h =
    let a : length (goods_of (put_spot ps g k)) ≡ length (goods_of ps) = ap length (put_goods ps g k h) in
    omega (arith, length_each (λ p. p.good) ps, length_each (λ p. p.good) (put_spot ps g k))

pub without_length : (ps : List Spot) (g : ℕ) → distinct (goods_of ps) ≡ true → has (goods_of ps) g ≡ true → suc (length (without g ps)) ≡ length ps
without_length ps g d h =
    let a : length (goods_of (without g ps)) ≡ length (those (λ j. not (eqb j g)) (goods_of ps)) = ap length (without_goods g ps) in
    omega (arith, length_each (λ p. p.good) ps, length_each (λ p. p.good) (without g ps), one_less (goods_of ps) g d h)

pub has_put : (ps : List Spot) (g k h : ℕ) → has (goods_of ps) g ≡ true → has (goods_of (put_spot ps g k)) h ≡ has (goods_of ps) h
has_put ps g k h i = ap (λ gs. has gs h) (put_goods ps g k i)

pub has_put_new : (ps : List Spot) (g k h : ℕ) → has (goods_of ps) g ≡ false → has (goods_of (put_spot ps g k)) h ≡ has (goods_of ps ++ g ∷ []) h
has_put_new ps g k h i = ap (λ gs. has gs h) (put_goods_new ps g k i)

pub has_without : (ps : List Spot) (g h : ℕ) → has (goods_of (without g ps)) h ≡ has (those (λ j. not (eqb j g)) (goods_of ps)) h
has_without ps g h = ap (λ gs. has gs h) (without_goods g ps)

pub put_here : (ps : List Spot) (g k : ℕ) → at (put_spot ps g k) g ≡ k
put_here ps g k = put_at ps g k g ∙ grind (arith, nat_tests)

pub put_other : (ps : List Spot) (g k h : ℕ) → h ≢ g → at (put_spot ps g k) h ≡ at ps h
put_other ps g k h n = put_at ps g k h ∙ grind (arith, nat_tests)

-- two lists with the same members
pub same_tests : (a b : Bool) → (a ≡ true → b ≡ true) → (b ≡ true → a ≡ true) → a ≡ b
same_tests true true f g = refl
same_tests true false f g = sym (f refl)
same_tests false true f g = g refl
same_tests false false f g = refl

-- where a number is not found, it gets no slot just if there is no room
pub takes_none : (room : ℕ) (I : Index) (K : IndexLaws room I) (i : I.Rows) (n : ℕ) → K.Sound i → n < 18446744073709551616 → I.find i n ≡ 0 →
    eqb (I.takes i n) 0 ≡ leb room (I.count i)
takes_none room I K i n s small none =
    by_order (I.count i) room
    (λ l. let t = K.insert_takes i n s small none l in ne_eqb _ _ (let p = t.0 in omega arith) ∙ sym (lt-leb _ _ l))
    (λ l. let t = K.insert_full i n s l in rw t (sym (le-leb _ _ l)))

module _ (P : Parts) (Q : Laws P) where
  abbrev St : P.goods.Rows → P.shelves.Rows → P.contents.Lists → List ℕ → List Spot → Type 0
  St = Stands P Q

  pub same_good : (i : P.goods.Rows) (g h : ℕ) → Q.goods.Sound i → 0 < P.goods.find i h → P.goods.find i g ≡ P.goods.find i h → g ≡ h
  same_good i g h s p e = sym (Q.goods.named i g s (rw e p)) ∙ ap (P.goods.num i) e ∙ Q.goods.named i h s p

  module _ (i : P.goods.Rows) (r : P.shelves.Rows) (c : P.contents.Lists) (ks : List ℕ) (ps : List Spot) (st : St i r c ks ps) where
    pub good_slot : (g : ℕ) → has (goods_of ps) g ≡ true → 0 < P.goods.find i g
    good_slot g h = ltb-true _ _ (sym (st.goods_there g) ∙ h)

    pub good_none : (g : ℕ) → has (goods_of ps) g ≡ false → P.goods.find i g ≡ 0
    good_none g h = let a = ltb-false _ _ (sym (st.goods_there g) ∙ h) in omega arith

    pub shelf_slot : (k : ℕ) → has ks k ≡ true → 0 < P.shelves.find r k
    shelf_slot k h = ltb-true _ _ (sym (st.shelves_there k) ∙ h)

    pub shelf_none : (k : ℕ) → has ks k ≡ false → P.shelves.find r k ≡ 0
    shelf_none k h = let a = ltb-false _ _ (sym (st.shelves_there k) ∙ h) in omega arith

    pub good_num : (g : ℕ) → has (goods_of ps) g ≡ true → P.goods.num i (P.goods.find i g) ≡ g
    good_num g h = Q.goods.named i g st.goods_sound (good_slot g h)

    pub shelf_num : (k : ℕ) → has ks k ≡ true → P.shelves.num r (P.shelves.find r k) ≡ k
    shelf_num k h = Q.shelves.named r k st.shelves_sound (shelf_slot k h)

    pub shelf_held : (g : ℕ) → has (goods_of ps) g ≡ true → 0 < P.contents.shelf c (P.goods.find i g)
    shelf_held g h = rw (st.on_shelf g h) (shelf_slot (at ps g) (st.placed g h))

    pub first_there : (g k : ℕ) → has (goods_of ps) g ≡ true → at ps g ≡ k → 0 < P.contents.first c (P.shelves.find r k)
    first_there g k h e = rw (ap (P.shelves.find r) (sym e) ∙ sym (st.on_shelf g h)) (Q.contents.first_some c _ st.contents_sound (shelf_held g h))

    -- the first good of a shelf
    pub first_good : (k : ℕ) → has ks k ≡ true → 0 < P.contents.first c (P.shelves.find r k) →
        (g : ℕ) × (has (goods_of ps) g ≡ true) × (at ps g ≡ k) × (P.goods.find i g ≡ P.contents.first c (P.shelves.find r k))
    first_good k h p =
        let a : P.contents.shelf c (P.contents.first c (P.shelves.find r k)) ≡ P.shelves.find r k = Q.contents.first_on c _ st.contents_sound (shelf_slot k h) (Q.shelves.bounded r k st.shelves_sound) p in
        let o = st.no_other (P.contents.first c (P.shelves.find r k)) (rw a (shelf_slot k h)) in
        let b : P.shelves.find r (at ps o.0) ≡ P.shelves.find r k = sym (st.on_shelf o.0 o.1) ∙ ap (P.contents.shelf c) o.2 ∙ a in
        (o.0, o.1, same_shelf P Q r (at ps o.0) k st.shelves_sound (shelf_slot k h) b, o.2)

    pub first_of : (k : ℕ) → distinct (goods_of ps) ≡ true → has ks k ≡ true → 0 < on ps k →
        (g : ℕ) × (has (goods_of ps) g ≡ true) × (at ps g ≡ k) × (P.goods.find i g ≡ P.contents.first c (P.shelves.find r k))
    first_of k d h p = let g = good_on ps k d p in first_good k h (first_there g.0 k g.1 g.2)

    pub stand_come : (g k : ℕ) → has (goods_of ps) g ≡ false → has ks k ≡ true → g < 18446744073709551616 → length ps < 32768 →
        St (P.goods.insert i g) r (P.contents.add c (P.shelves.find r k) (P.goods.find (P.goods.insert i g) g)) ks (put_spot ps g k)
    stand_come g k out h small room = record {
      goods_sound = s₁;
      shelves_sound = st.shelves_sound;
      contents_sound = Q.contents.add_sound c x y st.contents_sound px bx fresh by bare;
      goods_there = λ j. has_put_new ps g k j out ∙ by_same j g
          (λ q. rw q (push_new (goods_of ps) g ∙ sym (lt-ltb 0 _ fresh)))
          (λ q. same_tests _ _ (λ a. push_parts (goods_of ps) g j a q) (push_old (goods_of ps) g j) ∙ st.goods_there j ∙ ap (ltb 0) (sym (old j q)));
      shelves_there = st.shelves_there;
      placed = λ j a. by_same j g (λ q. rw (q, put_here ps g k) h) (λ q. rw (put_other ps g k j q) (st.placed j (there j q a)));
      on_shelf = λ j a. by_same j g
          (λ q. rw (q, put_here ps g k) (Q.contents.add_here c x y st.contents_sound px bx fresh by bare))
          (λ q. Q.contents.add_others c x y _ st.contents_sound px bx fresh by bare (apart j q) ∙ ap (P.contents.shelf c) (old j q) ∙ st.on_shelf j (there j q a) ∙ ap (P.shelves.find r) (sym (put_other ps g k j q)));
      no_other = λ z a. by_same z y
          (λ q. (g, has_put_new ps g k g out ∙ push_new (goods_of ps) g, sym q))
          (λ q. other z (st.no_other z (rw (Q.contents.add_others c x y z st.contents_sound px bx fresh by bare q) at a)));
      goods_count = Q.goods.insert_count i g st.goods_sound small none few ∙ ap suc st.goods_count ∙ sym (put_length_new ps g k out);
      shelves_count = st.shelves_count;
      goods_room = omega (arith, put_length_new ps g k out);
    }
      where
        none : P.goods.find i g ≡ 0
        none = good_none g out

        few : P.goods.count i < 32768
        few = rw st.goods_count room

        x : ℕ
        x = P.shelves.find r k

        y : ℕ
        y = P.goods.find (P.goods.insert i g) g

        px : 0 < P.shelves.find r k
        px = shelf_slot k h

        bx : P.shelves.find r k ≤ 1024
        bx = Q.shelves.bounded r k st.shelves_sound

        s₁ : Q.goods.Sound (P.goods.insert i g)
        s₁ = Q.goods.insert_sound i g st.goods_sound small none few

        fresh : 0 < P.goods.find (P.goods.insert i g) g
        fresh = let t = Q.goods.insert_takes i g st.goods_sound small none few in rw t.1 t.0

        by : P.goods.find (P.goods.insert i g) g ≤ 32768
        by = Q.goods.bounded _ g s₁

        old : (j : ℕ) → j ≢ g → P.goods.find (P.goods.insert i g) j ≡ P.goods.find i j
        old j q = Q.goods.insert_others i g j st.goods_sound small none few q

        apart : (j : ℕ) → j ≢ g → P.goods.find (P.goods.insert i g) j ≢ P.goods.find (P.goods.insert i g) g
        apart j q e = q (same_good (P.goods.insert i g) j g s₁ fresh e)

        away : (j : ℕ) → has (goods_of ps) j ≡ true → j ≢ g
        away j a e = let b : has (goods_of ps) g ≡ true = rw e at a in grind arith

        there : (j : ℕ) → j ≢ g → has (goods_of (put_spot ps g k)) j ≡ true → has (goods_of ps) j ≡ true
        there j q a = push_parts (goods_of ps) g j (sym (has_put_new ps g k j out) ∙ a) q

        other : (z : ℕ) → (j : ℕ) × (has (goods_of ps) j ≡ true) × (P.goods.find i j ≡ z) → (j : ℕ) × (has (goods_of (put_spot ps g k)) j ≡ true) × (P.goods.find (P.goods.insert i g) j ≡ z)
        other z o = (o.0, has_put_new ps g k o.0 out ∙ push_old (goods_of ps) g o.0 o.1, old o.0 (away o.0 o.1) ∙ o.2)

        bare : P.contents.shelf c (P.goods.find (P.goods.insert i g) g) ≡ 0
        bare = by_test (ltb 0 (P.contents.shelf c (P.goods.find (P.goods.insert i g) g)))
            (λ b. let o = st.no_other _ (ltb-true _ _ b) in
            let n = away o.0 o.1 in
            absurd (apart o.0 n (old o.0 n ∙ o.2)))
            (λ b. let a = ltb-false _ _ b in omega arith)

    pub stand_carry : (g k : ℕ) → has (goods_of ps) g ≡ true → has ks k ≡ true →
        St i r (P.contents.add (P.contents.remove c (P.goods.find i g)) (P.shelves.find r k) (P.goods.find i g)) ks (put_spot ps g k)
    stand_carry g k in₁ h = record {
      goods_sound = st.goods_sound;
      shelves_sound = st.shelves_sound;
      contents_sound = Q.contents.add_sound c₁ x y s₁ px bx py by bare;
      goods_there = λ j. has_put ps g k j in₁ ∙ st.goods_there j;
      shelves_there = st.shelves_there;
      placed = λ j a. by_same j g (λ q. rw (q, put_here ps g k) h) (λ q. rw (put_other ps g k j q) (st.placed j (there j a)));
      on_shelf = λ j a. by_same j g
          (λ q. rw (q, put_here ps g k) (Q.contents.add_here c₁ x y s₁ px bx py by bare))
          (λ q. others _ (apart j q) ∙ st.on_shelf j (there j a) ∙ ap (P.shelves.find r) (sym (put_other ps g k j q)));
      no_other = λ z a. by_same z (P.goods.find i g)
          (λ q. (g, has_put ps g k g in₁ ∙ in₁, sym q))
          (λ q. let o = st.no_other z (rw (others z q) at a) in (o.0, has_put ps g k o.0 in₁ ∙ o.1, o.2));
      goods_count = st.goods_count ∙ sym (put_length ps g k in₁);
      shelves_count = st.shelves_count;
      goods_room = let a = st.goods_room in omega (arith, put_length ps g k in₁);
    }
      where
        x : ℕ
        x = P.shelves.find r k

        y : ℕ
        y = P.goods.find i g

        c₁ : P.contents.Lists
        c₁ = P.contents.remove c (P.goods.find i g)

        px : 0 < P.shelves.find r k
        px = shelf_slot k h

        bx : P.shelves.find r k ≤ 1024
        bx = Q.shelves.bounded r k st.shelves_sound

        py : 0 < P.goods.find i g
        py = good_slot g in₁

        by : P.goods.find i g ≤ 32768
        by = Q.goods.bounded i g st.goods_sound

        held : 0 < P.contents.shelf c (P.goods.find i g)
        held = shelf_held g in₁

        s₁ : Q.contents.Sound (P.contents.remove c (P.goods.find i g))
        s₁ = Q.contents.remove_sound c _ st.contents_sound held

        bare : P.contents.shelf (P.contents.remove c (P.goods.find i g)) (P.goods.find i g) ≡ 0
        bare = Q.contents.remove_here c _ st.contents_sound held

        others : (z : ℕ) → z ≢ P.goods.find i g → P.contents.shelf (P.contents.add (P.contents.remove c (P.goods.find i g)) (P.shelves.find r k) (P.goods.find i g)) z ≡ P.contents.shelf c z
        others z q = Q.contents.add_others c₁ x y z s₁ px bx py by bare q ∙ Q.contents.remove_others c _ z st.contents_sound held q

        apart : (j : ℕ) → j ≢ g → P.goods.find i j ≢ P.goods.find i g
        apart j q e = q (same_good i j g st.goods_sound py e)

        there : (j : ℕ) → has (goods_of (put_spot ps g k)) j ≡ true → has (goods_of ps) j ≡ true
        there j a = sym (has_put ps g k j in₁) ∙ a

    pub stand_go : (g : ℕ) → distinct (goods_of ps) ≡ true → has (goods_of ps) g ≡ true → St (P.goods.remove i g) r (P.contents.remove c (P.goods.find i g)) ks (without g ps)
    stand_go g d in₁ = record {
      goods_sound = Q.goods.remove_sound i g st.goods_sound py;
      shelves_sound = st.shelves_sound;
      contents_sound = Q.contents.remove_sound c _ st.contents_sound held;
      goods_there = λ j. has_without ps g j ∙ by_same j g
          (λ q. rw q (gone ∙ sym (ap (ltb 0) (Q.goods.remove_gone i g st.goods_sound py))))
          (λ q. same_tests _ _ (λ a. (rest_parts (goods_of ps) g j a).0) (λ a. rest_from (goods_of ps) g j a q) ∙ st.goods_there j ∙ ap (ltb 0) (sym (old j q)));
      shelves_there = st.shelves_there;
      placed = λ j a. let p = parts j a in rw (without_at g j ps (ne_eqb _ _ p.1)) (st.placed j p.0);
      on_shelf = λ j a. let p = parts j a in
          Q.contents.remove_others c _ _ st.contents_sound held (λ e. p.1 (same_good i j g st.goods_sound py (sym (old j p.1) ∙ e)))
          ∙ ap (P.contents.shelf c) (old j p.1) ∙ st.on_shelf j p.0 ∙ ap (P.shelves.find r) (sym (without_at g j ps (ne_eqb _ _ p.1)));
      no_other = λ z a. by_same z (P.goods.find i g)
          (λ q. let b : P.contents.shelf (P.contents.remove c (P.goods.find i g)) z ≡ 0 = rw q (Q.contents.remove_here c _ st.contents_sound held) in absurd (omega arith))
          (λ q. other z q (st.no_other z (rw (Q.contents.remove_others c _ z st.contents_sound held q) at a)));
      goods_count = let a = Q.goods.remove_count i g st.goods_sound py in let b = st.goods_count in omega (arith, without_length ps g d in₁);
      shelves_count = st.shelves_count;
      goods_room = let a = st.goods_room in omega (arith, without_length ps g d in₁);
    }
      where
        py : 0 < P.goods.find i g
        py = good_slot g in₁

        held : 0 < P.contents.shelf c (P.goods.find i g)
        held = shelf_held g in₁

        gone : has (those (λ j. not (eqb j g)) (goods_of ps)) g ≡ false
        gone = has_those (λ j. not (eqb j g)) (goods_of ps) g ∙ grind (arith, nat_tests)

        old : (j : ℕ) → j ≢ g → P.goods.find (P.goods.remove i g) j ≡ P.goods.find i j
        old j q = Q.goods.remove_others i g j st.goods_sound py q

        parts : (j : ℕ) → has (goods_of (without g ps)) j ≡ true → (has (goods_of ps) j ≡ true) × (j ≢ g)
        parts j a = rest_parts (goods_of ps) g j (sym (has_without ps g j) ∙ a)

        other : (z : ℕ) → z ≢ P.goods.find i g → (j : ℕ) × (has (goods_of ps) j ≡ true) × (P.goods.find i j ≡ z) → (j : ℕ) × (has (goods_of (without g ps)) j ≡ true) × (P.goods.find (P.goods.remove i g) j ≡ z)
        other z q o = (o.0, has_without ps g o.0 ∙ rest_from (goods_of ps) g o.0 o.1 (n o), old o.0 (n o) ∙ o.2)
          where
            n : (o : (j : ℕ) × (has (goods_of ps) j ≡ true) × (P.goods.find i j ≡ z)) → o.0 ≢ g
            n o e = q (sym o.2 ∙ ap (P.goods.find i) e)

    pub stand_open : (k : ℕ) → has ks k ≡ false → k < 18446744073709551616 → length ks < 1024 → St i (P.shelves.insert r k) c (ks ++ k ∷ []) ps
    stand_open k out small room = record {
      goods_sound = st.goods_sound;
      shelves_sound = Q.shelves.insert_sound r k st.shelves_sound small none few;
      contents_sound = st.contents_sound;
      goods_there = st.goods_there;
      shelves_there = λ j. by_same j k
          (λ q. rw q (push_new ks k ∙ sym (lt-ltb 0 _ fresh)))
          (λ q. same_tests _ _ (λ a. push_parts ks k j a q) (push_old ks k j) ∙ st.shelves_there j ∙ ap (ltb 0) (sym (old j q)));
      placed = λ g a. push_old ks k _ (st.placed g a);
      on_shelf = λ g a. st.on_shelf g a ∙ sym (old _ (λ e. let b : has ks k ≡ true = rw e at (st.placed g a) in grind arith));
      no_other = st.no_other;
      goods_count = st.goods_count;
      shelves_count = Q.shelves.insert_count r k st.shelves_sound small none few ∙ (let a = st.shelves_count in omega (arith, length-append ks (k ∷ [])));
      goods_room = st.goods_room;
    }
      where
        none : P.shelves.find r k ≡ 0
        none = shelf_none k out

        few : P.shelves.count r < 1024
        few = rw st.shelves_count room

        fresh : 0 < P.shelves.find (P.shelves.insert r k) k
        fresh = let t = Q.shelves.insert_takes r k st.shelves_sound small none few in rw t.1 t.0

        old : (j : ℕ) → j ≢ k → P.shelves.find (P.shelves.insert r k) j ≡ P.shelves.find r j
        old j q = Q.shelves.insert_others r k j st.shelves_sound small none few q

    pub stand_close : (k : ℕ) → distinct ks ≡ true → has ks k ≡ true → ((g : ℕ) → has (goods_of ps) g ≡ true → at ps g ≢ k) →
        St i (P.shelves.remove r k) c (those (λ j. not (eqb j k)) ks) ps
    stand_close k d h none = record {
      goods_sound = st.goods_sound;
      shelves_sound = Q.shelves.remove_sound r k st.shelves_sound px;
      contents_sound = st.contents_sound;
      goods_there = st.goods_there;
      shelves_there = λ j. by_same j k
          (λ q. rw q (gone ∙ sym (ap (ltb 0) (Q.shelves.remove_gone r k st.shelves_sound px))))
          (λ q. same_tests _ _ (λ a. (rest_parts ks k j a).0) (λ a. rest_from ks k j a q) ∙ st.shelves_there j ∙ ap (ltb 0) (sym (old j q)));
      placed = λ g a. rest_from ks k _ (st.placed g a) (none g a);
      on_shelf = λ g a. st.on_shelf g a ∙ sym (old _ (none g a));
      no_other = st.no_other;
      goods_count = st.goods_count;
      shelves_count = let a = Q.shelves.remove_count r k st.shelves_sound px in let b = st.shelves_count in omega (arith, one_less ks k d h);
      goods_room = st.goods_room;
    }
      where
        px : 0 < P.shelves.find r k
        px = shelf_slot k h

        gone : has (those (λ j. not (eqb j k)) ks) k ≡ false
        gone = has_those (λ j. not (eqb j k)) ks k ∙ grind (arith, nat_tests)

        old : (j : ℕ) → j ≢ k → P.shelves.find (P.shelves.remove r k) j ≡ P.shelves.find r j
        old j q = Q.shelves.remove_others r k j st.shelves_sound px q
