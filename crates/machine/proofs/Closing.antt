-- A shelf goes: refused as it should be, or each of its goods goes to an emptiest.
use Rattle.std.proofs.Common.{◌≡◌, ℕ, zero, suc, ◌<◌, ◌≤◌, Bool, true, false, not, ◌&&◌, eqb, ◌⊎◌, List, [], ◌∷◌, length, refl, ap, ◌∙◌, inl, inr, arith}
use Rattle.std.proofs.lemmas.Bool.Decides.{nat_tests}
use Rattle.std.proofs.lemmas.Bool.{eqb-false, ne_eqb}
use Rattle.hall.specs.House.{pick, has, none_of, distinct, Spot, Store, goods, put_spot, put_all, left_spots, shelves_after, shelf_goes, Move, refusal, asks}
use Rattle.hall.specs.Greedy.{on, goods_of, Emptying}
use Rattle.hall.specs.Promise.{Event, said, next, refused}
use Rattle.words.proofs.Cases.{by_order}
use Rattle.hall.proofs.Loads.{Fine, has_length}
use Rattle.hall.proofs.Moving.{length_each}
use Rattle.hall.proofs.Puts.{put_on, put_goods}
use Rattle.hall.proofs.Empty.{rest_of, rest_out}
use Rattle.hall.proofs.Can.{good_on, rest_some, some_none}
use Rattle.machine.specs.Interfaces.{Parts, Laws}
use Rattle.machine.specs.Machine.{State, turn, turn_of, command_turn, drop_shelf, empties, with_loads}
use Rattle.machine.specs.Relation.{Shows, Holds, Tells, Served, Does}
use Rattle.machine.proofs.Weighing.{rest_parts, weigh_leave, weigh_drop}
use Rattle.machine.proofs.Standing.{shelf_slot, shelf_num, stand_close}
use Rattle.machine.proofs.Steps.{Bare, Sent, empties_step}
use Rattle.machine.proofs.Commands.{mv, some_has}

pub refuse_close : {T : Type 0} (a b : Bool) (f : ℕ → T) (w : T) →
    (0 < pick a (pick b 6 0) 3 → pick a (pick b (f 6) w) (f 3) ≡ f (pick a (pick b 6 0) 3))
    × (pick {A = ℕ} a (pick b 6 0) 3 ≡ 0 → pick a (pick b (f 6) w) (f 3) ≡ w)
refuse_close true true f w = (λ h. refl, λ h. absurd (omega arith))
refuse_close true false f w = (λ h. absurd (omega arith), λ h. refl)
refuse_close false b f w = (λ h. refl, λ h. absurd (omega arith))

pub none_length : {A : Type 0} (xs : List A) → eqb (length xs) 0 ≡ none_of xs
unfolding none_of
none_length [] = refl
none_length (x ∷ xs) = ne_eqb _ _ (omega arith)

module _ (P : Parts) (Q : Laws P) where
  -- a run that empties
  record Clears (s : Store) (k : ℕ) (ps : List Spot) (M : State P) (ev : Event) : Type 0 where
    moves : List Move
    state : State P
    tells : Tells P M ev moves state
    emptying : Emptying (rest_of s k) k ps moves
    idle : state.phase ≡ 0
    shows : Shows P Q state (rest_of s k) (rest_of s k) (put_all ps moves)

  next_empty : (m : State P) (x : ℕ) → m.phase ≡ 3 → m.subject ≡ x → turn_of P m next ≡ empties P m x
  unfolding turn_of
  next_empty m x p e = rw (p, e) refl

  module _ (s : Store) (k : ℕ) (F : Fine s) (there : has s.shelves k ≡ true) (some : (g : ℕ) → has (goods s) g ≡ true → (j : ℕ) × (has (rest_of s k) j ≡ true)) where
    clears_end : (ps : List Spot) (m M : State P) (ev : Event) → goods_of ps ≡ goods s → Shows P Q m s.shelves (rest_of s k) ps →
        turn_of P M ev ≡ empties P m (P.shelves.find m.shelves k) → Bare P Q m k ps → Clears s k ps M ev
    unfolding put_all
    clears_end ps m M ev same w t v =
        let e : P.shelves.num m.shelves (P.shelves.find m.shelves k) ≡ k = shelf_num P Q m.goods m.shelves m.contents s.shelves ps w.stands k there in
        record {
          moves = [];
          state = drop_shelf P m (P.shelves.find m.shelves k);
          tells = t ∙ v.says;
          emptying = by_order 0 (on ps k) (λ l. let g = good_on ps k (ap distinct same ∙ F.goods_once) l in absurd (v.nothing g.0 g.1 g.2)) (λ l. omega arith);
          idle = refl;
          shows = rw e (record {
            stands = stand_close P Q m.goods m.shelves m.contents s.shelves ps w.stands k F.shelves_once there v.nothing;
            weighs = weigh_drop P Q m.shelves m.loads (rest_of s k) (on ps) k w.stands.shelves_sound w.weighs
                (shelf_slot P Q m.goods m.shelves m.contents s.shelves ps w.stands k there) (rest_out s k F);
          });
        }

    sent_loss : (ps : List Spot) (m : State P) (v : Sent P Q m k s.shelves (rest_of s k) ps) → suc (on (put_spot ps v.good v.to) k) ≡ on ps k
    sent_loss ps m v =
        let p = put_on ps v.good v.to k v.in_hall in
        let a = v.on_it in
        let n : eqb v.to k ≡ false = ne_eqb _ _ (rest_parts s.shelves k v.to v.to_one).1 in
        grind (arith, nat_tests)

    clears_more : (ps : List Spot) (m M : State P) (ev : Event) → turn_of P M ev ≡ empties P m (P.shelves.find m.shelves k) →
        (v : Sent P Q m k s.shelves (rest_of s k) ps) → Clears s k (put_spot ps v.good v.to) v.state next → Clears s k ps M ev
    unfolding put_all
    clears_more ps m M ev t v r = record {
      moves = mv v.good v.to ∷ r.moves;
      state = r.state;
      tells = (v.state, t ∙ v.says, r.tells);
      emptying = (v.in_hall, v.on_it, (v.to_one, v.least), r.emptying);
      idle = r.idle;
      shows = r.shows;
    }

    step : (ps : List Spot) (m : State P) → goods_of ps ≡ goods s → Shows P Q m s.shelves (rest_of s k) ps → Bare P Q m k ps ⊎ Sent P Q m k s.shelves (rest_of s k) ps
    step ps m same w =
        empties_step P Q m k s.shelves (rest_of s k) ps w there (rest_out s k F) (λ j h. (rest_parts s.shelves k j h).0) (λ g h. some g (rw same at h))

    clears : (n : ℕ) (ps : List Spot) (m M : State P) (ev : Event) → goods_of ps ≡ goods s → on ps k ≤ n → Shows P Q m s.shelves (rest_of s k) ps →
        turn_of P M ev ≡ empties P m (P.shelves.find m.shelves k) → Clears s k ps M ev
    clears zero ps m M ev same l w t =
        elim (step ps m same w) [ inl v ↦ clears_end ps m M ev same w t v | inr v ↦ (let x = sent_loss ps m v in absurd (omega arith)) ]
    clears (suc n) ps m M ev same l w t =
        elim (step ps m same w) [
          | inl v ↦ clears_end ps m M ev same w t v
          | inr v ↦ (let x = sent_loss ps m v in
              clears_more ps m M ev t v
              (clears n (put_spot ps v.good v.to) v.state v.state next (put_goods ps v.good v.to v.in_hall ∙ same) (omega arith) v.shows (next_empty v.state _ v.phase v.subject)))
        ]

  module _ (m : State P) (s : Store) (H : Holds P Q m s) (F : Fine s) (k : ℕ) where
    abbrev closed : State P
    closed = with_loads P m (P.loads.leave m.loads (P.shelves.find m.shelves k))

    close_turn : turn_of P m (said (shelf_goes k)) ≡
        pick (has s.shelves k) (pick (eqb (length s.shelves) 1 && not (none_of s.spots)) (turn P m (refused 6)) (empties P closed (P.shelves.find m.shelves k))) (turn P m (refused 3))
    unfolding turn_of command_turn
    close_turn = rw (H.idle, H.shows.stands.shelves_there k, H.shows.stands.shelves_count, H.shows.stands.goods_count, none_length s.spots) refl

    -- while there are goods there is another shelf
    another : has s.shelves k ≡ true → (eqb (length s.shelves) 1 && not (none_of s.spots)) ≡ false → (g : ℕ) → has (goods s) g ≡ true → (j : ℕ) × (has (rest_of s k) j ≡ true)
    another h b g i =
        let l = has_length (goods s) g i in
        let n : none_of s.spots ≡ false = some_none s.spots (omega (arith, length_each (λ p. p.good) s.spots)) in
        let x : 0 < length (rest_of s k) = rest_some s k F h (eqb-false _ _ (grind arith)) in
        some_has (rest_of s k) (some_none (rest_of s k) x)

    close_from : Clears s k s.spots m (said (shelf_goes k)) → Served P Q m s (shelf_goes k)
    unfolding asks left_spots shelves_after
    close_from r = record { moves = r.moves; state = r.state; tells = r.tells; greedy = r.emptying; holds = record { idle = r.idle; shows = r.shows } }

    close_served : has s.shelves k ≡ true → (eqb (length s.shelves) 1 && not (none_of s.spots)) ≡ false →
        turn_of P m (said (shelf_goes k)) ≡ empties P closed (P.shelves.find m.shelves k) → Served P Q m s (shelf_goes k)
    close_served h b t =
        close_from (clears s k F h (another h b) (on s.spots k) s.spots closed m (said (shelf_goes k)) refl (omega arith)
        (record { stands = H.shows.stands; weighs = weigh_leave P Q m.shelves m.loads s.shelves (on s.spots) k H.shows.stands.shelves_sound H.shows.weighs h }) t)

    pub does_close : Does P Q m s (shelf_goes k)
    unfolding refusal
    does_close = record {
      refuses = λ r. close_turn ∙ (refuse_close (has s.shelves k) (eqb (length s.shelves) 1 && not (none_of s.spots)) (λ k. turn P m (refused k)) _).0 r;
      serves = λ r. close_served (grind arith) (grind arith) (close_turn ∙ (refuse_close (has s.shelves k) (eqb (length s.shelves) 1 && not (none_of s.spots)) (λ k. turn P m (refused k)) _).1 r);
    }
