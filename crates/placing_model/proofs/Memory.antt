-- A memory and the state that it holds: cutting and joining lose nothing.
use Rattle.std.proofs.Common.{◌≡◌, ℕ, zero, suc, ◌+◌, ◌<◌, List, [], ◌∷◌, ◌++◌, length, get_or, refl, ap, ◌∙◌, arith}
use Rattle.words.specs.Small.{Small}
use Rattle.words.specs.Parts.{part, cuts, flat, end, lengths, AllFit}
use Rattle.words.proofs.Laws.{length_part, small_part}
use Rattle.words.proofs.Cuts.{cuts_flat, flat_cuts, length_flat_end, fit_flat}
use Rattle.machine.specs.Machine.{State, start as begin}
use Rattle.machine.specs.Keeping.{Property, Kept}
use Rattle.placing_model.specs.Parts.{parts, zeros}
use Rattle.placing_model.specs.Memory.{sizes, listed, named, cut, joined}

-- every part has its size
abbrev pub Sizes : Property parts
Sizes = record {
  goods = λ m. length m ≡ 131078;
  shelves = λ m. length m ≡ 4102;
  loads = λ m. length m ≡ 5121;
  contents = λ m. length m ≡ 99332;
  number = λ n. Unit {0};
}

-- and all its words fit 64 bits
abbrev pub Words : Property parts
Words = record {
  goods = λ m. (length m ≡ 131078) × Small m;
  shelves = λ m. (length m ≡ 4102) × Small m;
  loads = λ m. (length m ≡ 5121) × Small m;
  contents = λ m. (length m ≡ 99332) × Small m;
  number = λ n. n < 18446744073709551616;
}

lengths_listed : (s : State parts) → Kept parts Sizes s → lengths (listed s) ≡ sizes
unfolding lengths
lengths_listed s k = rw (k.goods, k.shelves, k.loads, k.contents) refl

pub cut_joined : (s : State parts) → Kept parts Sizes s → cut (joined s) ≡ s
unfolding cut joined
cut_joined s k = ap named (cuts_flat sizes (listed s) (lengths_listed s k))

pub joined_length : (s : State parts) → Kept parts Sizes s → length (joined s) ≡ 239635
unfolding joined
joined_length s k = omega (arith, length_flat_end 0 (listed s), ap (end 0) (lengths_listed s k))

-- the registers are their two words
two_words : (m : List ℕ) → length m ≡ 2 → get_or m 0 0 ∷ get_or m 1 0 ∷ [] ≡ m
two_words [] h = absurd (omega arith)
two_words (x ∷ []) h = absurd (omega arith)
two_words (x ∷ y ∷ []) h = refl
two_words (x ∷ y ∷ z ∷ m) h = absurd (omega arith)

pub joined_cut : (m : List ℕ) → length m ≡ 239635 → joined (cut m) ≡ m
unfolding joined cut cuts flat
joined_cut m h =
    ap (λ r. r ++ (part 2 131078 m ++ (part 131080 4102 m ++ (part 135182 5121 m ++ (part 140303 99332 m ++ []))))) (two_words (part 0 2 m) (length_part 0 2 m (omega arith)))
    ∙ flat_cuts sizes m h

pub sizes_cut : (m : List ℕ) → length m ≡ 239635 → Kept parts Sizes (cut m)
unfolding cut cuts
sizes_cut m h = record {
  phase = tt;
  subject = tt;
  goods = length_part 2 131078 m (omega arith);
  shelves = length_part 131080 4102 m (omega arith);
  loads = length_part 135182 5121 m (omega arith);
  contents = length_part 140303 99332 m (omega arith);
}

small_word : (m : List ℕ) (k : ℕ) → Small m → get_or m k 0 < 18446744073709551616
unfolding Small
small_word m k s = s k

pub words_cut : (m : List ℕ) → length m ≡ 239635 → Small m → Kept parts Words (cut m)
unfolding cut cuts
words_cut m h s = record {
  phase = small_word _ 0 (small_part 0 2 m s);
  subject = small_word _ 1 (small_part 0 2 m s);
  goods = (length_part 2 131078 m (omega arith), small_part 2 131078 m s);
  shelves = (length_part 131080 4102 m (omega arith), small_part 131080 4102 m s);
  loads = (length_part 135182 5121 m (omega arith), small_part 135182 5121 m s);
  contents = (length_part 140303 99332 m (omega arith), small_part 140303 99332 m s);
}

small_two : (a b : ℕ) → a < 18446744073709551616 → b < 18446744073709551616 → Small (a ∷ b ∷ [])
unfolding Small
small_two a b h i zero = h
small_two a b h i (suc zero) = i
small_two a b h i (suc (suc k)) = omega arith

pub words_joined : (s : State parts) → Kept parts Words s → Small (joined s)
unfolding joined AllFit
words_joined s w = fit_flat (listed s) (small_two _ _ w.phase w.subject, (w.goods.1, (w.shelves.1, (w.loads.1, (w.contents.1, tt)))))

-- zeros
pub length_zeros : (n : ℕ) → length (zeros n) ≡ n
unfolding zeros
length_zeros zero = refl
length_zeros (suc n) = ap suc (length_zeros n)

zeros_append : (a b : ℕ) → zeros a ++ zeros b ≡ zeros (a + b)
unfolding zeros
zeros_append zero b = let e : b ≡ 0 + b = omega arith in ap zeros e
zeros_append (suc a) b = let e : suc (a + b) ≡ suc a + b = omega arith in ap (λ m. 0 ∷ m) (zeros_append a b) ∙ ap zeros e

zeros_then : (a b c : ℕ) (m : List ℕ) → m ≡ zeros b → a + b ≡ c → zeros a ++ m ≡ zeros c
zeros_then a b c m e f = ap (λ x. zeros a ++ x) e ∙ zeros_append a b ∙ ap zeros f

zeros_more : (a c : ℕ) (m : List ℕ) → m ≡ zeros a → suc (suc a) ≡ c → 0 ∷ 0 ∷ m ≡ zeros c
unfolding zeros
zeros_more a c m e f = ap (λ x. 0 ∷ 0 ∷ x) e ∙ ap zeros f

zeros_none : [] ≡ zeros 0
unfolding zeros
zeros_none = refl

pub joined_zeros : joined (begin parts) ≡ zeros 239635
unfolding joined flat
joined_zeros =
    zeros_more 239633 239635 _
    (zeros_then 131078 108555 239633 _ (zeros_then 4102 104453 108555 _ (zeros_then 5121 99332 104453 _ (zeros_then 99332 0 99332 _ zeros_none refl) refl) refl) refl) refl
