-- Phase two at the client end: exactly the allowed phases are accepted, and what they leave and write.
use Prim.Native.Nat.{ℕ, ◌+◌, ◌≤◌}
use mathlib.Core.Path.{◌≡◌, refl, sym, ap, ap₂, ◌∙◌, subst}
use mathlib.Core.Bool.{Bool, true, false, ◌&&◌, false≢true}
use mathlib.Core.Logic.{inl, inr, ⊎_elim, ◌↔◌}
use mathlib.Core.List.{List, [], ◌∷◌, ◌++◌, map}
use lib.ListN.{length}
use native.Mathlib.Omega.{arith}
use Rattle.refusal.specs.Pick.{pick}
use Rattle.refusal.specs.Same.{same}
use Rattle.refusal.proofs.Laws.Booleans.{cases}
use Rattle.refusal.proofs.Laws.Same.{same_eq}
use Rattle.stanza.specs.Arguments.{argument_of}
use Rattle.session.specs.declared.words.WordTwo.{WordTwo}
use Rattle.tables.specs.Tables.{Table, fits, entered, kept}
use Rattle.tables.proofs.Laws.Tables.{entered_kept}
use Rattle.phase_one.specs.Commands.{done_word, is_bare}
use Rattle.session.specs.Tables.{Tables}
use Rattle.phase_one.specs.Views.{recipients, identities}
use Rattle.session.specs.declared.opening.Machine.{Machine}
use Rattle.session.specs.declared.phases.Phase.TheVariants.{Two}
use Rattle.conversation.specs.Calls.{receive_two, state_of, after, numbers, AllZero, Accepted}
use Rattle.conversation.specs.CommandsTwo.{CommandTwo, ask, stanza, key, error, done, other, bad, command_two, row_two, word_two}
use Rattle.conversation.specs.Kinds.{Buffers}
use Rattle.conversation.specs.PhaseTwo as two
use Rattle.conversation.specs.PhaseTwo.{KindTwo, errors, stanzas, returned, buffer_of, most_stanzas, is_held_back, fault_of, decided, applied, filled_by}
use Rattle.conversation.specs.Phases.{All, Whole, line_in, body_in, is_done, command_in, payload_in, Block, Supply, behind, two_part, block_calls, calls_of, LongEnough}
use Rattle.session.specs.Session.{Session}
use Rattle.conversation.specs.Allowed.{Left, is_right_two, Present, Said, Sum, keys_for, stanzas_for_file, errors_for, entries, bytes, weight, total, Limits, said_by, Answered, RightBlock}
use Rattle.conversation.proofs.Laws.Accepted.{accepted}
use Rattle.conversation.proofs.Laws.CommandsTwo.{Proper, command_proper}
use Rattle.conversation.proofs.Laws.DecidedTwo.{decided_iff, Faultless}
use Rattle.conversation.proofs.Laws.Limits.{placed_length}
use Rattle.conversation.proofs.Laws.PresentTwo.{Shows, applied_shows, present_iff}
use Rattle.conversation.proofs.Laws.Runs.{accepted_append, enough_append}
use Rattle.conversation.proofs.Laws.StepsTwo.{at, judged, tables_with, buffers_with, Settled, phase_behind, BlockDone, block_from, block_to}
use Rattle.conversation.proofs.Laws.SumsTwo.{sums_in, said, Going, With, Kept_limits, limits_with, tests_by, adds}
use Rattle.conversation.proofs.Laws.ViewsTwo.{two_leaves}

-- ---- limits: smaller sums keep them

pub limits_less : (most : ℕ) (capacity : KindTwo → ℕ) (n m : Sum → ℕ) → Limits most capacity n → ((x : Sum) → m x ≤ n x) → Limits most capacity m
limits_less most capacity n m l h = record {
  once = λ f. omega (arith, l.once f, h (keys_for f));
  few = λ f. omega (arith, l.few f, h (stanzas_for_file f));
  apart = ⊎_elim (λ z. inl (omega (arith, h (entries errors)))) (λ z. inr (omega (arith, h (entries stanzas)))) l.apart;
  apart_file = λ f. ⊎_elim (λ z. inl (omega (arith, h (errors_for f)))) (λ z. inr (omega (arith, h (keys_for f)))) (l.apart_file f);
  slots = λ k. omega (arith, l.slots k, h (entries k));
  bytes_fit = λ k. omega (arith, l.bytes_fit k, h (bytes k));
}

-- equal numbers keep them
pub limits_same : (most most' : ℕ) (capacity capacity' : KindTwo → ℕ) (n m : Sum → ℕ) → most ≡ most' → ((k : KindTwo) → capacity k ≡ capacity' k) → ((x : Sum) → m x ≡ n x) → Limits most capacity n → Limits most' capacity' m
limits_same most most' capacity capacity' n m e c h l = record {
  once = λ f. omega (arith, l.once f, h (keys_for f));
  few = λ f. omega (arith, l.few f, h (stanzas_for_file f));
  apart = ⊎_elim (λ z. inl (omega (arith, h (entries errors)))) (λ z. inr (omega (arith, h (entries stanzas)))) l.apart;
  apart_file = λ f. ⊎_elim (λ z. inl (omega (arith, h (errors_for f)))) (λ z. inr (omega (arith, h (keys_for f)))) (l.apart_file f);
  slots = λ k. omega (arith, l.slots k, h (entries k));
  bytes_fit = λ k. omega (arith, l.bytes_fit k, h (bytes k), c k);
}

-- ---- one command

right_iff : (d : Bool) (c : CommandTwo) → Proper d c → (fault_of c ≡ 0) ↔ (is_right_two c ≡ true)
right_iff d (ask w) p = (λ e. refl, λ e. refl)
right_iff d (stanza f) p = (λ e. refl, λ e. refl)
right_iff d (key f) p = (λ e. refl, λ e. refl)
right_iff d (error n) p = (λ e. refl, λ e. refl)
right_iff d done p = (λ e. refl, λ e. refl)
right_iff d other p = (λ e. refl, λ e. refl)
right_iff d (bad n) p = (λ e. absurd (p e), λ e. absurd (false≢true e))

-- tables and buffers in the middle of a phase; left is what phase one left
pub record Standing (left : Left) (t : Tables) (b : two.BuffersTwo) : Type 0 where
  pub going : Going t
  pub shows : Shows t left
  pub limits : Kept_limits t b

-- the decision finds no fault exactly if the command is right, what it names is there, it keeps the limits and, at the plugin's own sending, nothing holds it back
pub decided_exact : (own : Bool) (left : Left) (t : Tables) (b : two.BuffersTwo) (d : Bool) (c : CommandTwo) (p : List ℕ) → Proper d c → Standing left t b →
    (decided own t b c (length p) ≡ 0) ↔ ((is_right_two c ≡ true) × Present left c × With t b c p × ((own && is_held_back t c) ≡ false))
decided_exact own left t b d c p h s =
    let i = decided_iff own t b c (length p) in
    let r = right_iff d c h in
    let q = present_iff t left s.shows c in (
      λ z. let f = i.0 z in (r.0 f.right, q.0 f.there, limits_with t b s.going s.limits p own c f, f.unheld),
      λ y. let v = tests_by t b s.going p c y.2 in i.1 (record { right = r.1 y.0; there = q.1 y.1; first_key = v.0; few = v.1; apart = v.2; unheld = y.3; space = v.3 }),
    )

entered_wide : (t : Table) (n i m c : ℕ) → (entered t n i m c).width ≡ t.width
entered_wide t n i m c = cases (fits t n c) (λ e. rw e) (λ e. rw e)

pub kept_length : (t : Table) (p b : List ℕ) → length (kept t p b) ≡ length b
kept_length t p b = cases (fits t (length p) (length b)) (λ e. rw e (placed_length t p b e)) (λ e. rw e)

-- a command leaves tables that calls can reach
pub applied_going : (t : Tables) (b : two.BuffersTwo) (c : CommandTwo) (p : List ℕ) → Going t → Going (applied t b c p)
applied_going t b (ask w) p g = g
applied_going t b (stanza f) p g = record {
  held = elim [ errors ↦ g.held errors | stanzas ↦ entered_kept t.stanzas (length p) f 0 (length b.stanzas) (g.held stanzas) | returned ↦ g.held returned ];
  wide = elim [ errors ↦ g.wide errors | stanzas ↦ entered_wide t.stanzas (length p) f 0 (length b.stanzas) ∙ g.wide stanzas | returned ↦ g.wide returned ];
}
applied_going t b (key f) p g = record {
  held = elim [ errors ↦ g.held errors | stanzas ↦ g.held stanzas | returned ↦ entered_kept t.returned (length p) f 0 (length b.returned) (g.held returned) ];
  wide = elim [ errors ↦ g.wide errors | stanzas ↦ g.wide stanzas | returned ↦ entered_wide t.returned (length p) f 0 (length b.returned) ∙ g.wide returned ];
}
applied_going t b (error n) p g = record {
  held = elim [ errors ↦ entered_kept t.errors (length p) (two.index_of n) (two.mark_of n) (length b.errors) (g.held errors) | stanzas ↦ g.held stanzas | returned ↦ g.held returned ];
  wide = elim [ errors ↦ entered_wide t.errors (length p) (two.index_of n) (two.mark_of n) (length b.errors) ∙ g.wide errors | stanzas ↦ g.wide stanzas | returned ↦ g.wide returned ];
}
applied_going t b done p g = g
applied_going t b other p g = g
applied_going t b (bad n) p g = g

-- buffers keep their lengths
pub filled_length : (t : Tables) (b : two.BuffersTwo) (c : CommandTwo) (p : List ℕ) (k : KindTwo) → length (buffer_of k b) ≡ length (buffer_of k (filled_by t b c p))
filled_length t b (ask w) p k = refl
filled_length t b (stanza f) p errors = refl
filled_length t b (stanza f) p stanzas = sym (kept_length t.stanzas p b.stanzas)
filled_length t b (stanza f) p returned = refl
filled_length t b (key f) p errors = refl
filled_length t b (key f) p stanzas = refl
filled_length t b (key f) p returned = sym (kept_length t.returned p b.returned)
filled_length t b (error n) p errors = sym (kept_length t.errors p b.errors)
filled_length t b (error n) p stanzas = refl
filled_length t b (error n) p returned = refl
filled_length t b done p k = refl
filled_length t b other p k = refl
filled_length t b (bad n) p k = refl

most_same : (t : Tables) (b : two.BuffersTwo) (c : CommandTwo) (p : List ℕ) → most_stanzas t ≡ most_stanzas (applied t b c p)
most_same t b c p = ap₂ (λ x y. x.count + y.count) (sym (two_leaves t p b c recipients)) (sym (two_leaves t p b c identities))

-- behind an accepted command
pub standing_with : (own : Bool) (left : Left) (t : Tables) (b : two.BuffersTwo) (c : CommandTwo) (p : List ℕ) → Standing left t b → Faultless own t b c (length p) → Standing left (applied t b c p) (filled_by t b c p)
standing_with own left t b c p s f = record {
  going = applied_going t b c p s.going;
  shows = applied_shows t b c p left s.shows;
  limits = limits_same (most_stanzas t) (most_stanzas (applied t b c p)) (λ k. length (buffer_of k b)) (λ k. length (buffer_of k (filled_by t b c p))) (λ m. sums_in t m + weight m (said c p)) (sums_in (applied t b c p)) (most_same t b c p) (filled_length t b c p) (adds t b s.going p own c f) (limits_with t b s.going s.limits p own c f);
}

-- the limits with what is still to come
abbrev pub Fitting : Tables → two.BuffersTwo → List Said → Type 0
Fitting t b cs = Limits (most_stanzas t) (λ k. length (buffer_of k b)) (λ m. sums_in t m + total m cs)

pub fitting_none : (t : Tables) (b : two.BuffersTwo) → Kept_limits t b → Fitting t b []
unfolding total
fitting_none t b l = limits_less (most_stanzas t) (λ k. length (buffer_of k b)) (sums_in t) (λ m. sums_in t m + 0) l (λ m. omega arith)

-- the first command of them keeps the limits
pub fitting_front : (t : Tables) (b : two.BuffersTwo) (c : CommandTwo) (p : List ℕ) (cs : List Said) → Fitting t b (said c p ∷ cs) → With t b c p
unfolding total
fitting_front t b c p cs l = limits_less (most_stanzas t) (λ k. length (buffer_of k b)) (λ m. sums_in t m + total m (said c p ∷ cs)) (λ m. sums_in t m + weight m (said c p)) l (λ m. omega arith)

-- and by itself
pub fitting_one : (t : Tables) (b : two.BuffersTwo) (c : CommandTwo) (p : List ℕ) → With t b c p → Fitting t b (said c p ∷ [])
unfolding total
fitting_one t b c p l = limits_less (most_stanzas t) (λ k. length (buffer_of k b)) (λ m. sums_in t m + weight m (said c p)) (λ m. sums_in t m + (weight m (said c p) + 0)) l (λ m. omega arith)

-- what is still to come behind it
pub fitting_rest : (own : Bool) (left : Left) (t : Tables) (b : two.BuffersTwo) (c : CommandTwo) (p : List ℕ) (cs : List Said) → Standing left t b → Faultless own t b c (length p) →
    Fitting t b (said c p ∷ cs) ↔ Fitting (applied t b c p) (filled_by t b c p) cs
unfolding total
fitting_rest own left t b c p cs s f =
    let a = adds t b s.going p own c f in (
      limits_same (most_stanzas t) (most_stanzas (applied t b c p)) (λ k. length (buffer_of k b)) (λ k. length (buffer_of k (filled_by t b c p))) (λ m. sums_in t m + total m (said c p ∷ cs)) (λ m. sums_in (applied t b c p) m + total m cs) (most_same t b c p) (filled_length t b c p) (λ m. omega (arith, a m)),
      limits_same (most_stanzas (applied t b c p)) (most_stanzas t) (λ k. length (buffer_of k (filled_by t b c p))) (λ k. length (buffer_of k b)) (λ m. sums_in (applied t b c p) m + total m cs) (λ m. sums_in t m + total m (said c p ∷ cs)) (sym (most_same t b c p)) (λ k. sym (filled_length t b c p k)) (λ m. omega (arith, a m)),
    )

-- ---- one block

is_ask : CommandTwo → Bool
is_ask (ask w) = true
is_ask (stanza f) = false
is_ask (key f) = false
is_ask (error n) = false
is_ask done = false
is_ask other = false
is_ask (bad n) = false

-- the word done is done, or a fault
pub done_command : (m : Machine) (line body : List ℕ) → same (argument_of line 0) done_word ≡ true → command_two m line body ≡ pick (is_bare line (length body) 0) done (bad 4)
unfolding command_two same
done_command m line body e = ap (λ w. row_two (word_two m w) m line (length body)) (same_eq (argument_of line 0) done_word e)

-- it asks nothing
pub done_asks : (m : Machine) (x : List ℕ) → is_done x ≡ true → (v : WordTwo) → command_in m x ≡ ask v → ⊥
unfolding is_ask
done_asks m x e v q = go (is_bare (line_in x) (length (body_in x)) 0) (ap is_ask (sym (done_command m (line_in x) (body_in x) e) ∙ q))
  where
    go : (f : Bool) → is_ask (pick f done (bad 4)) ≡ true → ⊥
    go true e = false≢true e
    go false e = false≢true e

-- any other word leaves phase two
goes_on : (c : CommandTwo) → Proper false c → phase_behind c ≡ Two
goes_on (ask w) p = refl
goes_on (stanza f) p = refl
goes_on (key f) p = refl
goes_on (error n) p = refl
goes_on done p = absurd (false≢true p)
goes_on other p = refl
goes_on (bad n) p = refl

module _ (s : Session) (left : Left) where
  proper : (x : List ℕ) → Proper (is_done x) (command_in s.machine x)
  proper x = command_proper s.machine (line_in x) (body_in x)

  module _ (t : Tables) (b : Buffers) (x : Block) (w : Whole x.text) (g : Standing left t b.second) where
    abbrev c : CommandTwo
    c = command_in s.machine x.text

    abbrev p : List ℕ
    p = payload_in s.machine x.text

    -- it is right by itself and keeps the limits exactly if the decision finds no fault and its replies are as they must be
    pub block_iff : ((judged s t b x.text w ≡ 0) × Answered s.screen c x.replies) ↔ (RightBlock s.machine s.screen left x × With t b.second c p)
    block_iff =
        let i = decided_exact false left t b.second (is_done x.text) c p (proper x.text) g in (
          λ h. let r = i.0 h.0 in (record { right = r.0; present = r.1; answered = h.1 }, r.2),
          λ h. (i.1 (h.0.right, h.0.present, h.1, refl), h.0.answered),
        )

    pub standing_behind : judged s t b x.text w ≡ 0 → Standing left (tables_with s t b x.text w) (buffers_with s t b x.text w).second
    standing_behind z = standing_with false left t b.second c p g ((decided_iff false t b.second c (length p)).0 z)

  -- a list of blocks is accepted only in phase two
  pub first_turn : (s' : Session) (b : Buffers) (outs : Supply) (xs : List Block) (y : Block) → Accepted s' b (calls_of two_part outs (xs ++ (y ∷ []))) → s'.phase ≡ Two
  unfolding calls_of AllZero numbers
  first_turn s' b outs [] y a = (accepted s' b (receive_two y.text (outs 0)) a.0).turn
  first_turn s' b outs (x ∷ xs) y a = (accepted s' b (receive_two x.text (outs 0)) a.0).turn

  -- behind a block that is not done
  pub behind_block : (t : Tables) (b : Buffers) (x : Block) (w : Whole x.text) (outs : Supply) → is_done x.text ≡ false → BlockDone s t b x w outs →
      after (at s Two t) b (block_calls two_part outs x) ≡ state_of (at s Two (tables_with s t b x.text w)) (buffers_with s t b x.text w)
  behind_block t b x w outs d k =
      k.state ∙ ap (λ q. state_of (at s q (tables_with s t b x.text w)) (buffers_with s t b x.text w)) (goes_on (command_in s.machine x.text) (subst (λ f. Proper f (command_in s.machine x.text)) d (proper x.text)))

  abbrev pub Right : List Block → Type 0
  Right xs = All (RightBlock s.machine s.screen left) xs

  abbrev pub saids : List Block → List Said
  saids xs = map (said_by s.machine) xs

  -- the blocks from here on are accepted exactly if each is right and together they keep the limits
  pub accepted_from : (xs : List Block) (y : Block) (t : Tables) (b : Buffers) (outs : Supply) → Standing left t b.second → All (λ x. Whole x.text) (xs ++ (y ∷ [])) → All (λ x. is_done x.text ≡ false) xs → is_done y.text ≡ true →
      LongEnough (at s Two t) b (calls_of two_part outs (xs ++ (y ∷ []))) →
      Accepted (at s Two t) b (calls_of two_part outs (xs ++ (y ∷ []))) ↔ (Right (xs ++ (y ∷ [])) × Fitting t b.second (saids (xs ++ (y ∷ []))))
  unfolding All calls_of total
  accepted_from [] y t b outs g w d e l =
      let le = (enough_append (at s Two t) b (block_calls two_part outs y) [] l).0 in
      let i = block_iff t b y w.0 g in
      let split = accepted_append (at s Two t) b (block_calls two_part outs y) [] in (
        λ a.
            let h = block_to s t b y w.0 outs le (split.0 a).0 (λ v q. absurd (done_asks s.machine y.text e v q)) in
            let r = i.0 h in
            ((r.0, tt), fitting_one t b.second (command_in s.machine y.text) (payload_in s.machine y.text) r.1),
        λ h.
            let z = i.1 (h.0.0, fitting_front t b.second (command_in s.machine y.text) (payload_in s.machine y.text) [] h.1) in
            split.1 ((block_from s t b y w.0 outs le z.0 z.1).zeros, unfold AllZero in unfold numbers in tt),
      )
  accepted_from (x ∷ xs) y t b outs g w d e l =
      let cs = calls_of two_part (behind outs x) (xs ++ (y ∷ [])) in
      let le = enough_append (at s Two t) b (block_calls two_part outs x) cs l in
      let i = block_iff t b x w.0 g in
      let split = accepted_append (at s Two t) b (block_calls two_part outs x) cs in
      let t' = tables_with s t b x.text w.0 in
      let b' = buffers_with s t b x.text w.0 in
      let Replies = Answered s.screen (command_in s.machine x.text) x.replies in
      let state : judged s t b x.text w.0 ≡ 0 → Replies → after (at s Two t) b (block_calls two_part outs x) ≡ state_of (at s Two t') b' =
      λ z q. behind_block t b x w.0 outs d.0 (block_from s t b x w.0 outs le.0 z q) in
      let later : judged s t b x.text w.0 ≡ 0 → Replies → Accepted (at s Two t') b' cs ↔ (Right (xs ++ (y ∷ [])) × Fitting t' b'.second (saids (xs ++ (y ∷ [])))) =
      λ z q. accepted_from xs y t' b' (behind outs x) (standing_behind t b x w.0 g z) w.1 d.1 e (subst (λ u. LongEnough u.session u.buffers cs) (state z q) le.1) in (
        λ a.
            let split-a = split.0 a in
            let turn = first_turn (after (at s Two t) b (block_calls two_part outs x)).session (after (at s Two t) b (block_calls two_part outs x)).buffers (behind outs x) xs y split-a.1 in
            let h = block_to s t b x w.0 outs le.0 split-a.0 (λ v q. subst Settled (sym turn) tt) in
            let r = i.0 h in
            let rest = (later h.0 h.1).0 (subst (λ u. Accepted u.session u.buffers cs) (state h.0 h.1) split-a.1) in
            let f = (decided_iff false t b.second (command_in s.machine x.text) (length (payload_in s.machine x.text))).0 h.0 in
            ((r.0, rest.0), (fitting_rest false left t b.second (command_in s.machine x.text) (payload_in s.machine x.text) (saids (xs ++ (y ∷ []))) g f).1 rest.1),
        λ h.
            let z = i.1 (h.0.0, fitting_front t b.second (command_in s.machine x.text) (payload_in s.machine x.text) (saids (xs ++ (y ∷ []))) h.1) in
            let f = (decided_iff false t b.second (command_in s.machine x.text) (length (payload_in s.machine x.text))).0 z.0 in
            let rest = (later z.0 z.1).1 (h.0.1, (fitting_rest false left t b.second (command_in s.machine x.text) (payload_in s.machine x.text) (saids (xs ++ (y ∷ []))) g f).0 h.1) in
            split.1 ((block_from s t b x w.0 outs le.0 z.0 z.1).zeros, subst (λ u. Accepted u.session u.buffers cs) (sym (state z.0 z.1)) rest),
      )
