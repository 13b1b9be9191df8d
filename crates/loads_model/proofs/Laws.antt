-- The laws of a region, from those of a replay over any order.
use Rattle.std.proofs.Common.{◌≡◌, ℕ, suc, ◌+◌, ◌-◌, ◌*◌, ◌^◌, ◌<◌, ◌≤◌, min, Bool, true, cond, eqb, ltb, leb, ◌≢◌, ◌⊎◌, List, length, get_or, set, replicate, sym, refl, ap, ◌∙◌, subst, inl, inr, arith}
use Rattle.std.proofs.lemmas.Bool.{ltb-true, ltb-false, leb-true, lt-ltb, le-ltb, lt-leb, le-leb, cond-true, cond-false, cond_both, cases_eq, cases_lt, and_from, and_left, and_right, and_parts}
use Rattle.std.proofs.lemmas.List.{length-set, get_or-set_same, get_or-set_other, get_or-replicate, get_or_past, length-replicate}
use Rattle.words.specs.Small.{Small, Kept}
use Rattle.words.proofs.Cases.{by_order}
use Rattle.loads_model.specs.Model.{a_slot, load_at, emptier, fuller, tree, leaf, replay, put_at, mark_at, emptiest_at, fullest_at, enter_at, leave_at, add_one_at, take_one_at}
use Rattle.loads_model.specs.Sound.{Ranked, Held, Sound, There, Weak, Order}
use Rattle.loads_model.specs.Laws.{EmptiestLaw, FullestLaw, Both, SetAt, EnterLaw, LeaveLaw, AddOneLaw, TakeOneLaw, SoundLaw, ElsewhereLaw, KeptLaw, EachChange, SmallLaw, ThereLaw, ZerosLaw, EmptyLaw, OrderLaw}
use Rattle.loads_model.proofs.Tournament.{root_law}
use Rattle.loads_model.proofs.Climb.{replay_frame, replay_mark, replay_load, replay_law, load_same, order_same, kept_self, kept_set, replay_kept}

by_number : (num : ℕ → ℕ) → Weak (λ x y. ltb (num x) (num y))
by_number num = record {
  asym = λ x y e. le-ltb (num y) (num x) (omega (arith, ltb-true (num x) (num y) e));
  through = λ x y z e f. le-ltb (num x) (num z) (omega (arith, ltb-false (num x) (num y) e, ltb-false (num y) (num z) f));
}

-- an order turned round
turned : (before : ℕ → ℕ → Bool) → Weak before → Weak (λ x y. before y x)
turned before w = record { asym = λ x y e. w.asym y x e; through = λ x y z e f. w.through z y x f e }

by_emptier : Order emptier
by_emptier = record { weak = λ m. by_number (load_at m); local = λ m n x y e f. cc }

by_fuller : Order fuller
by_fuller = record { weak = λ m. turned (emptier m) (by_number (load_at m)); local = λ m n x y e f. cc }

pub order_law : OrderLaw
order_law = (by_emptier, by_fuller)

pub emptiest_law : EmptiestLaw
unfolding emptiest_at There
emptiest_law m h = elim (root_law (emptier m) (tree 1025 m) (by_emptier.weak m) h.low) [
  | inl o ↦ inl o
  | inr o ↦ inr (
    o.0,
    λ x p. (
      ltb-false (load_at m x) (load_at m (tree 1025 m 1)) (o.1 x p).0,
      λ e. (o.1 x p).1 (le-ltb (load_at m (tree 1025 m 1)) (load_at m x) (omega arith)),
    ),
  )
]

to_high : (m : List ℕ) → Sound m → (x : ℕ) → Held (tree 1025 m) x → Held (tree 3073 m) x
to_high m h x p = record { some = p.some; near = p.near; marked = h.agree x p.some p.near ∙ p.marked }

to_low : (m : List ℕ) → Sound m → (x : ℕ) → Held (tree 3073 m) x → Held (tree 1025 m) x
to_low m h x p = record { some = p.some; near = p.near; marked = sym (h.agree x p.some p.near) ∙ p.marked }

pub fullest_law : FullestLaw
unfolding fullest_at There
fullest_law m h = elim (root_law (fuller m) (tree 3073 m) (by_fuller.weak m) h.high) [
  | inl o ↦ inl (o.0, λ x p. o.1 x (to_high m h x p))
  | inr o ↦ inr (
    to_low m h (tree 3073 m 1) o.0,
    λ x p. (
      ltb-false (load_at m (tree 3073 m 1)) (load_at m x) (o.1 x (to_high m h x p)).0,
      λ e. (o.1 x (to_high m h x p)).1 (le-ltb (load_at m x) (load_at m (tree 3073 m 1)) (omega arith)),
    ),
  )
]

slot_yes : (s : ℕ) → 0 < s → s ≤ 1024 → a_slot s ≡ true
slot_yes s some near = and_from (ltb 0 s) (leb s 1024) (lt-ltb 0 s some) (le-leb s 1024 near)

ranked_same : (before : ℕ → ℕ → Bool) (at to : ℕ → ℕ) → ((q : ℕ) → q < 2048 → to q ≡ at q) → Ranked before at → Ranked before to
ranked_same before at to e r = record {
  inner = λ i lo hi. (
      let e₀ = e i (omega arith) in
      let e₁ = e (2 * i) (omega arith) in
      let e₂ = e (2 * i + 1) (omega arith) in
      let f = r.inner i lo hi in
      cc);
  leaves = λ s lo hi. subst (λ v. (v ≡ s) ⊎ (v ≡ 0)) (sym (e (leaf s) (omega arith))) (r.leaves s lo hi);
}

-- a slot's load and leaves are written: all that there is to say of a change
module _ (m : List ℕ) (h : Sound m) (s mark load : ℕ) (some : 0 < s) (near : s ≤ 1024) (marks : (mark ≡ s) ⊎ (mark ≡ 0)) where
  abbrev m₁ : List ℕ
  m₁ = set m s load

  abbrev m₂ : List ℕ
  m₂ = replay emptier 1025 m₁ s mark

  abbrev m₃ : List ℕ
  m₃ = replay fuller 3073 m₂ s mark

  small_mark : mark < 18446744073709551616
  small_mark = elim marks [ inl e ↦ omega arith | inr e ↦ omega arith ]

  long₁ : 5120 < length m₁
  long₁ = omega (arith, h.long, length-set m s load)

  long₂ : 5120 < length m₂
  long₂ = omega (arith, long₁, (replay_kept emptier 1025 m₁ m₁ s mark (kept_self m₁) (λ _. small_mark)).long)

  load₂ : (x : ℕ) → load_at m₂ x ≡ load_at m₁ x
  load₂ x = replay_load emptier 1025 m₁ s mark x (omega arith) near

  load₃ : (x : ℕ) → load_at m₃ x ≡ load_at m₂ x
  load₃ x = replay_load fuller 3073 m₂ s mark x (omega arith) near

  others₁ : (x : ℕ) → x ≢ s → load_at m₁ x ≡ load_at m x
  others₁ x ne = load_same m m₁ x (λ _. get_or-set_other m s x load 0 ne)

  here₁ : load_at m₁ s ≡ load
  unfolding load_at
  here₁ = cond-true (a_slot s) (get_or m₁ s 0) 0 (slot_yes s some near) ∙ get_or-set_same m s load 0 (omega (arith, h.long))

  low₂ : Ranked (emptier m₂) (tree 1025 m₂)
  low₂ = replay_law emptier 1025 m m₁ s mark by_emptier (omega arith) (omega (arith, long₁)) some near marks h.low
      (λ q. get_or-set_other m s (1025 + q) load 0 (λ e. absurd (omega arith))) others₁

  -- the tree of the fullest is not touched by the first replay, nor the tree of the emptiest by the second
  high₂ : (q : ℕ) → tree 3073 m₂ q ≡ tree 3073 m q
  high₂ q = replay_frame emptier 1025 m₁ s mark (3073 + q) near (λ e. absurd (omega arith)) (inr (omega arith)) ∙ get_or-set_other m s (3073 + q) load 0 (λ e. absurd (omega arith))

  low₃ : (q : ℕ) → q < 2048 → tree 1025 m₃ q ≡ tree 1025 m₂ q
  low₃ q lt = replay_frame fuller 3073 m₂ s mark (1025 + q) near (λ e. absurd (omega arith)) (inl (omega arith))

  high₃ : Ranked (fuller m₃) (tree 3073 m₃)
  high₃ = replay_law fuller 3073 m m₂ s mark by_fuller (omega arith) (omega (arith, long₂)) some near marks h.high high₂ (λ x ne. load₂ x ∙ others₁ x ne)

  low_leaf : tree 1025 m₃ (leaf s) ≡ mark
  low_leaf = low₃ (leaf s) (omega arith) ∙ replay_mark emptier 1025 m₁ s mark some near (omega (arith, long₁))

  low_other : (k : ℕ) → 0 < k → k ≤ 1024 → k ≢ s → tree 1025 m₃ (leaf k) ≡ tree 1025 m (leaf k)
  low_other k lo hi ne =
      low₃ (leaf k) (omega arith) ∙ replay_frame emptier 1025 m₁ s mark (1025 + leaf k) near (λ e. ne (omega arith)) (inr (omega arith))
      ∙ get_or-set_other m s (1025 + leaf k) load 0 (λ e. absurd (omega arith))

  high_other : (k : ℕ) → 0 < k → k ≢ s → tree 3073 m₃ (leaf k) ≡ tree 3073 m (leaf k)
  high_other k lo ne = replay_frame fuller 3073 m₂ s mark (3073 + leaf k) near (λ e. ne (omega arith)) (inr (omega arith)) ∙ high₂ (leaf k)

  agree₃ : (k : ℕ) → 0 < k → k ≤ 1024 → tree 3073 m₃ (leaf k) ≡ tree 1025 m₃ (leaf k)
  agree₃ k lo hi = elim (cases_eq k s) [
    | inl e ↦ subst (λ j. tree 3073 m₃ (leaf j) ≡ tree 1025 m₃ (leaf j)) (sym e) (replay_mark fuller 3073 m₂ s mark some near (omega (arith, long₂)) ∙ sym low_leaf)
    | inr ne ↦ high_other k lo ne ∙ h.agree k lo hi ∙ sym (low_other k lo hi ne)
  ]

  put_sound : Sound m₃
  put_sound = record {
    long = omega (arith, long₂, (replay_kept fuller 3073 m₂ m₂ s mark (kept_self m₂) (λ _. small_mark)).long);
    low = subst (λ b. Ranked b (tree 1025 m₃)) (sym (order_same emptier by_emptier m₂ m₃ load₃)) (ranked_same (emptier m₂) (tree 1025 m₂) (tree 1025 m₃) low₃ low₂);
    high = high₃;
    agree = agree₃;
  }

  put_in_sets : SetAt m m₃ s load × (mark_at m₃ s ≡ mark)
  unfolding There mark_at
  put_in_sets = (
    record {
      sound = put_sound;
      here = load₃ s ∙ load₂ s ∙ here₁;
      others = λ y ne. load₃ y ∙ load₂ y ∙ others₁ y ne;
      stay = λ y ne. (
        λ p. record { some = p.some; near = p.near; marked = low_other y p.some p.near ne ∙ p.marked },
        λ p. record { some = p.some; near = p.near; marked = sym (low_other y p.some p.near ne) ∙ p.marked },
      );
    },
    low_leaf,
  )

  put_sets : SetAt m (put_at m s mark load) s load × (mark_at (put_at m s mark load) s ≡ mark)
  unfolding put_at
  put_sets = subst (λ u. SetAt m u s load × (mark_at u s ≡ mark)) (sym (cond-true (a_slot s) m₃ m (slot_yes s some near))) put_in_sets

pub enter_law : EnterLaw
unfolding There mark_at
enter_law m s h some near =
    let p = put_sets m h s s 0 some near (inl refl) in
    (p.0, record { some = some; near = near; marked = p.1 })

pub leave_law : LeaveLaw
unfolding There mark_at
leave_law m s h some near =
    let p = put_sets m h s 0 0 some near (inr refl) in
    (p.0, λ q. absurd (omega (arith, some, q.marked, p.1)))

-- a load is written, and the shelf is there or not as before
load_sets : (m : List ℕ) (s load : ℕ) → Sound m → 0 < s → s ≤ 1024 →
    SetAt m (put_at m s (mark_at m s) load) s load × Both (There m s) (There (put_at m s (mark_at m s) load) s)
unfolding There mark_at
load_sets m s load h some near =
    let p = put_sets m h s (mark_at m s) load some near (h.low.leaves s some near) in (
      p.0,
      (
        λ q. record { some = some; near = near; marked = p.1 ∙ q.marked },
        λ q. record { some = some; near = near; marked = sym p.1 ∙ q.marked },
      ),
    )

pub add_one_law : AddOneLaw
add_one_law m s h some near room =
    subst (λ n. SetAt m (put_at m s (mark_at m s) n) s (suc (load_at m s)) × Both (There m s) (There (put_at m s (mark_at m s) n) s))
    one_more
    (load_sets m s (suc (load_at m s)) h some near)
  where
    one_more : suc (load_at m s) ≡ min (load_at m s + 1) (2 ^ 64 - 1)
    one_more = omega arith

pub take_one_law : TakeOneLaw
take_one_law m s h some near = load_sets m s (load_at m s - 1) h some near

-- for every memory and every slot
pub put_elsewhere : (m : List ℕ) (s mark load : ℕ) → (s ≡ 0) ⊎ (1024 < s) → put_at m s mark load ≡ m
unfolding put_at
put_elsewhere m s mark load o =
    cond-false (a_slot s) (replay fuller 3073 (replay emptier 1025 (set m s load) s mark) s mark) m
    (elim o [ inl e ↦ and_left (ltb 0 s) (leb s 1024) (le-ltb 0 s (omega arith)) | inr far ↦ and_right (ltb 0 s) (leb s 1024) (lt-leb s 1024 far) ])

pub elsewhere_law : EachChange ElsewhereLaw
elsewhere_law = (
  λ m s o. put_elsewhere m s s 0 o,
  λ m s o. put_elsewhere m s 0 0 o,
  λ m s o. put_elsewhere m s (mark_at m s) (min (load_at m s + 1) (2 ^ 64 - 1)) o,
  λ m s o. put_elsewhere m s (mark_at m s) (load_at m s - 1) o,
)

-- a change that is right at slots, and does nothing elsewhere
sound_all : (change : List ℕ → ℕ → List ℕ) → ((m : List ℕ) (s : ℕ) → Sound m → 0 < s → s ≤ 1024 → Sound (change m s)) → ElsewhereLaw change → SoundLaw change
sound_all change right still m s h =
    by_order 0 s
    (λ some. by_order 1024 s (λ far. subst Sound (sym (still m s (inr far))) h) (λ near. right m s h some near))
    (λ none. subst Sound (sym (still m s (inl (omega arith)))) h)

pub sound_law : EachChange SoundLaw
sound_law = (
  sound_all enter_at (λ m s h some near. (enter_law m s h some near).0.sound) elsewhere_law.0,
  sound_all leave_at (λ m s h some near. (leave_law m s h some near).0.sound) elsewhere_law.1,
  sound_all add_one_at (λ m s h some near. (load_sets m s (min (load_at m s + 1) (2 ^ 64 - 1)) h some near).0.sound) elsewhere_law.2,
  sound_all take_one_at (λ m s h some near. (take_one_law m s h some near).0.sound) elsewhere_law.3,
)

put_kept : (m : List ℕ) (s mark load : ℕ) → (s ≤ 1024 → Small m → mark < 18446744073709551616) → (Small m → load < 18446744073709551616) → Kept m (put_at m s mark load)
unfolding put_at
put_kept m s mark load fits low =
    cond_both (a_slot s) (replay fuller 3073 (replay emptier 1025 (set m s load) s mark) s mark) m (Kept m)
    (λ e.
    let fits₁ = fits (leb-true s 1024 (and_parts (ltb 0 s) (leb s 1024) e).1) in
    replay_kept fuller 3073 m (replay emptier 1025 (set m s load) s mark) s mark
    (replay_kept emptier 1025 m (set m s load) s mark (kept_set m m s load (kept_self m) low) fits₁) fits₁)
    (λ _. kept_self m)

small_load : (m : List ℕ) (x : ℕ) → Small m → load_at m x < 18446744073709551616
unfolding load_at Small
small_load m x s = cond_both (a_slot x) (get_or m x 0) 0 (λ n. n < 18446744073709551616) (λ _. s x) (λ _. omega arith)

small_mark_at : (m : List ℕ) (x : ℕ) → Small m → mark_at m x < 18446744073709551616
unfolding Small mark_at
small_mark_at m x s = s (1025 + leaf x)

pub kept_law : EachChange KeptLaw
kept_law = (
  λ m s. put_kept m s s 0 (λ near _. omega arith) (λ _. omega arith),
  λ m s. put_kept m s 0 0 (λ _ _. omega arith) (λ _. omega arith),
  λ m s. put_kept m s (mark_at m s) (min (load_at m s + 1) (2 ^ 64 - 1)) (λ _. small_mark_at m s) (λ _. omega arith),
  λ m s. put_kept m s (mark_at m s) (load_at m s - 1) (λ _. small_mark_at m s) (λ z. omega (arith, small_load m s z)),
)

pub small_law : SmallLaw
unfolding emptiest_at fullest_at Small
small_law m s = (s (1025 + 1), s (3073 + 1), λ x. small_load m x s)

pub there_law : ThereLaw
unfolding There
there_law m x p = (p.some, p.near)

zeros_ranked : (before : ℕ → ℕ → Bool) (at : ℕ → ℕ) → ((i : ℕ) → at i ≡ 0) → Ranked before at
zeros_ranked before at none = record {
  inner = λ i _ _. none i ∙ sym (cond-true (eqb (at (2 * i + 1)) 0) (at (2 * i)) (cond (eqb (at (2 * i)) 0) (at (2 * i + 1)) (cond (before (at (2 * i + 1)) (at (2 * i))) (at (2 * i + 1)) (at (2 * i)))) (ap (λ v. eqb v 0) (none (2 * i + 1))) ∙ none (2 * i));
  leaves = λ s _ _. inr (none (leaf s));
}

pub zeros_law : ZerosLaw
unfolding There
zeros_law m long none = (
  record {
    long = long;
    low = zeros_ranked (emptier m) (tree 1025 m) (λ i. none (1025 + i));
    high = zeros_ranked (fuller m) (tree 3073 m) (λ i. none (3073 + i));
    agree = λ s _ _. none (3073 + leaf s) ∙ sym (none (1025 + leaf s));
  },
  λ x p. absurd (omega (arith, p.some, p.marked, none (1025 + leaf x))),
)

zeros : (n i : ℕ) → ◌≡◌ {A = ℕ} (get_or (replicate n 0) i 0) 0
zeros n i = elim (cases_lt i n) [ inl lt ↦ get_or-replicate n i 0 0 lt | inr ge ↦ get_or_past (replicate n 0) i 0 (omega (arith, length-replicate {A = ℕ} n 0)) ]

pub empty_law : EmptyLaw
empty_law = zeros_law (replicate 5121 0) (omega (arith, length-replicate {A = ℕ} 5121 0)) (zeros 5121)
