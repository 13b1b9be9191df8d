-- The list of free slots, and slots in use as a list.
use Rattle.std.proofs.Common.{◌≡◌, ℕ, suc, ◌≤◌, List, [], ◌∷◌, length, sym, refl, ap, ◌∙◌, subst, inl, inr, arith}
use Rattle.index_model.specs.Sound.{Inside, Outside, Distinct, Chain}

-- slots come into use, or a free one gets another number, and the rest of the chain stays
pub chain_kept : (at next at' next' : ℕ → ℕ) (top top' x : ℕ) → top ≤ top'
    → ((p : ℕ) → (at' p ≡ 0 → ⊥) → (at' p ≡ x → ⊥) → (q : ℕ) × (at q ≡ at' p)) → ((z : ℕ) → (z ≡ x → ⊥) → next' z ≡ next z)
    → (f : ℕ) (xs : List ℕ) → Outside x xs → Chain at next top f xs → Chain at' next' top' f xs
chain_kept at next at' next' top top' x l used same f [] out c = c
chain_kept at next at' next' top top' x l used same f (s ∷ xs) out c =
    let some = c.1 in (
      c.0,
      c.1,
      omega (arith, c.2),
      (λ p e. (let q = used p (λ z. omega (arith, z, e, some)) (λ z. out.0 (sym z ∙ e)) in c.3 q.0 (q.1 ∙ e))),
      c.4,
      subst (λ (g : ℕ). Chain at' next' top' g xs) (sym (same s (λ z. out.0 (sym z))))
          (chain_kept at next at' next' top top' x l used same (next s) xs out.1 c.5),
    )

-- what differs from every slot that is low and hangs nowhere is not on the chain
pub chain_outside : (at next : ℕ → ℕ) (top x : ℕ) → ((s : ℕ) → s ≤ top → ((p : ℕ) → at p ≡ s → ⊥) → x ≡ s → ⊥)
    → (f : ℕ) (xs : List ℕ) → Chain at next top f xs → Outside x xs
chain_outside at next top x off f [] c = tt
chain_outside at next top x off f (s ∷ xs) c = (off s c.2 c.3, chain_outside at next top x off (next s) xs c.5)

pub chain_empty : (at next : ℕ → ℕ) (top f : ℕ) (xs : List ℕ) → f ≡ 0 → Chain at next top f xs → length xs ≡ 0
chain_empty at next top f [] z c = refl
chain_empty at next top f (s ∷ xs) z c = absurd (omega (arith, c.0, c.1))

-- the chain after its first slot
pub record Chained (at next : ℕ → ℕ) (top f : ℕ) (xs : List ℕ) : Type 0 where
  pub low : f ≤ top
  pub free : (p : ℕ) → at p ≡ f → ⊥
  pub rest : List ℕ
  pub apart : Outside f rest
  pub on : Chain at next top (next f) rest
  pub longer : length xs ≡ suc (length rest)

pub chain_first : (at next : ℕ → ℕ) (top f : ℕ) (xs : List ℕ) → (f ≡ 0 → ⊥) → Chain at next top f xs → Chained at next top f xs
chain_first at next top f [] u c = absurd (u c)
chain_first at next top f (s ∷ xs) u c =
    subst (λ (g : ℕ). Chained at next top g (s ∷ xs)) (sym c.0)
    (record { low = c.2; free = c.3; rest = xs; apart = c.4; on = c.5; longer = refl })

-- inside and outside
pub outside_of : (x : ℕ) (ys : List ℕ) → (Inside x ys → ⊥) → Outside x ys
outside_of x [] off = tt
outside_of x (y ∷ ys) off = (λ e. off (inl e), outside_of x ys (λ i. off (inr i)))

pub not_both : (x z : ℕ) (ys : List ℕ) → Outside x ys → Inside z ys → z ≡ x → ⊥
not_both x z [] o i e = i
not_both x z (y ∷ ys) o i e = elim i [ inl f ↦ o.0 (sym e ∙ f) | inr j ↦ not_both x z ys o.1 j e ]

-- a list without one of its slots
pub record Less (x : ℕ) (ys : List ℕ) : Type 0 where
  pub rest : List ℕ
  pub longer : length ys ≡ suc (length rest)
  pub stays : (z : ℕ) → (z ≡ x → ⊥) → Inside z ys → Inside z rest
  pub was : (z : ℕ) → Inside z rest → Inside z ys × (z ≡ x → ⊥)
  pub once : Distinct rest

pub take_out : (x : ℕ) (ys : List ℕ) → Distinct ys → Inside x ys → Less x ys
take_out x [] d i = absurd i
take_out x (y ∷ ys) d i =
    elim i [
      | inl e ↦
          record {
            rest = ys;
            longer = refl;
            stays = λ z ne j. elim j [ inl f ↦ absurd (ne (f ∙ sym e)) | inr k ↦ k ];
            was = λ z j. (inr j, λ f. not_both y z ys d.0 j (f ∙ e));
            once = d.1;
          }
      | inr k ↦
          (let r = take_out x ys d.1 k in
          record {
            rest = y ∷ r.rest;
            longer = ap suc r.longer;
            stays = λ z ne j. elim j [ inl f ↦ inl f | inr l ↦ inr (r.stays z ne l) ];
            was = λ z j. elim j [ inl f ↦ (inl f, λ e. not_both y x ys d.0 k (sym e ∙ f)) | inr l ↦ (inr (r.was z l).0, (r.was z l).1) ];
            once = (outside_of y r.rest (λ j. not_both y y ys d.0 (r.was y j).0 refl), r.once);
          })
    ]

-- the same of what each of them has
unfoldable pub each : (f : ℕ → ℕ) → List ℕ → List ℕ
each f [] = []
each f (x ∷ xs) = f x ∷ each f xs

pub length_each : (f : ℕ → ℕ) (xs : List ℕ) → length (each f xs) ≡ length xs
unfolding each
length_each f [] = refl
length_each f (x ∷ xs) = ap suc (length_each f xs)

pub each_in : (f : ℕ → ℕ) (x : ℕ) (xs : List ℕ) → Inside x xs → Inside (f x) (each f xs)
unfolding each
each_in f x [] i = i
each_in f x (y ∷ ys) i = elim i [ inl e ↦ inl (ap f e) | inr j ↦ inr (each_in f x ys j) ]

pub each_of : (f : ℕ → ℕ) (k : ℕ) (xs : List ℕ) → Inside k (each f xs) → (x : ℕ) × (Inside x xs × (k ≡ f x))
unfolding each
each_of f k [] i = absurd i
each_of f k (y ∷ ys) i =
    elim i [ inl e ↦ (y, (inl refl, e)) | inr j ↦ (let r = each_of f k ys j in (r.0, (inr r.1.0, r.1.1))) ]

pub each_once : (f : ℕ → ℕ) (xs : List ℕ) → Distinct xs → ((x y : ℕ) → Inside x xs → Inside y xs → f x ≡ f y → x ≡ y) → Distinct (each f xs)
unfolding each
each_once f [] d one = tt
each_once f (x ∷ xs) d one = (
  outside_of (f x) (each f xs) (λ i. (let r = each_of f (f x) xs i in not_both x r.0 xs d.0 r.1.0 (sym (one x r.0 (inl refl) (inr r.1.0) r.1.1)))),
  each_once f xs d.1 (λ y z i j. one y z (inr i) (inr j)),
)
