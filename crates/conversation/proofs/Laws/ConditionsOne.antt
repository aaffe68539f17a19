-- The conditions of phase one's numbers, and the decision as a row of tests. For every session that an opening and calls can reach.
use Prim.Native.Nat.{ℕ, ◌<◌, ◌≤◌}
use mathlib.Core.Path.{◌≡◌, refl, sym, ap, ◌∙◌, subst}
use mathlib.Core.Bool.{Bool, true, false, not, true≢false, false≢true}
use mathlib.Core.List.{List, [], ◌∷◌, ◌++◌}
use lib.Dec.{eqb}
use lib.ListN.{length}
use native.Mathlib.Omega.{arith}
use borrow.Author.Tests.{eqb-true}
use Rattle.refusal.specs.Pick.{pick}
use Rattle.refusal.specs.Verdict.{first_of}
use Rattle.refusal.proofs.Laws.Booleans.{cases}
use Rattle.tables.specs.Repeats.{repeats}
use Rattle.tables.specs.Tables.{Row, fits}
use Rattle.tables.proofs.Laws.Repeats.{repeats_iff}
use Rattle.session.specs.Session.{Session}
use Rattle.session.specs.Tables.{Tables}
use Rattle.phase_one.specs.Commands.{CommandOne, recipient, identity, key, header, done, other, bad, payload_of}
use Rattle.phase_one.specs.PhaseOne.{BuffersOne, falls, decided, command_in}
use Rattle.phase_one.specs.Views.{recipients, identities, keys, headers}
use Rattle.stanza.specs.Arguments.{argument_of}
use Rattle.conversation.specs.PhaseTwo.{when}
use Rattle.conversation.specs.Kinds.{AnyKind, first, Buffers, view_of}
use Rattle.conversation.specs.Numbers.{SayingOne, SaysOne, Falling, Twice, Full, stanza_payload, SpacelessOne, recipient_spaceless, identity_spaceless, key_spaceless, header_spaceless}
use Rattle.conversation.proofs.Laws.ConditionsTwo.{kept_any, full_iff}
use Rattle.conversation.proofs.Laws.SumsTwo.{assured}
use Rattle.conversation.proofs.Laws.Limits.{last_of, last_is, no_fall}
use Rattle.conversation.proofs.Laws.Reached.{ReachedSession}
use Rattle.conversation.proofs.Laws.RowsOne.{SaidOne, says_recipient, says_identity, says_key, says_header}

-- ---- the decision as a row of tests

-- No. 4 or 5
abbrev pub fault_one : CommandOne → ℕ
fault_one (recipient m) = 0
fault_one (identity m) = 0
fault_one key = 0
fault_one (header i m) = 0
fault_one done = 0
fault_one other = 0
fault_one (bad n) = n

-- No. 7
abbrev pub is_falling : Tables → CommandOne → Bool
is_falling t (recipient m) = false
is_falling t (identity m) = false
is_falling t key = false
is_falling t (header i m) = falls t.headers i
is_falling t done = false
is_falling t other = false
is_falling t (bad n) = false

-- No. 20
abbrev pub is_repeated : Tables → BuffersOne → CommandOne → List ℕ → Bool
is_repeated t b (recipient m) p = repeats t.recipients b.recipients p
is_repeated t b (identity m) p = false
is_repeated t b key p = false
is_repeated t b (header i m) p = false
is_repeated t b done p = false
is_repeated t b other p = false
is_repeated t b (bad n) p = false

-- No. 8
abbrev pub is_spaceless_one : Tables → BuffersOne → CommandOne → ℕ → Bool
is_spaceless_one t b (recipient m) n = not (fits t.recipients n (length b.recipients))
is_spaceless_one t b (identity m) n = not (fits t.identities n (length b.identities))
is_spaceless_one t b key n = not (fits t.keys n (length b.keys))
is_spaceless_one t b (header i m) n = not (fits t.headers n (length b.headers))
is_spaceless_one t b done n = false
is_spaceless_one t b other n = false
is_spaceless_one t b (bad k) n = false

turned : (f : Bool) → ◌≡◌ {A = ℕ} (pick f 0 8) (when (not f) 8)
turned true = refl
turned false = refl

pub decided_tests : (t : Tables) (b : BuffersOne) (c : CommandOne) (p : List ℕ) →
    decided t b c p ≡ first_of (fault_one c) (first_of (when (is_falling t c) 7) (first_of (when (is_repeated t b c p) 20) (when (is_spaceless_one t b c (length p)) 8)))
decided_tests t b (recipient m) p = both (repeats t.recipients b.recipients p) (fits t.recipients (length p) (length b.recipients))
  where
    both : (g f : Bool) → ◌≡◌ {A = ℕ} (pick g 20 (pick f 0 8)) (first_of (when g 20) (when (not f) 8))
    both true f = refl
    both false true = refl
    both false false = refl
decided_tests t b (identity m) p = turned (fits t.identities (length p) (length b.identities))
decided_tests t b key p = turned (fits t.keys (length p) (length b.keys))
decided_tests t b (header i m) p = both (falls t.headers i) (fits t.headers (length p) (length b.headers))
  where
    both : (g f : Bool) → ◌≡◌ {A = ℕ} (pick g 7 (pick f 0 8)) (first_of (when g 7) (when (not f) 8))
    both true f = refl
    both false true = refl
    both false false = refl
decided_tests t b done p = refl
decided_tests t b other p = refl
decided_tests t b (bad k) p = cases (eqb k 0) (λ e. rw e (eqb-true k 0 e)) (λ e. rw e)

-- ---- the last row

split_last : (rs : List Row) (i : ℕ) → i < last_of rs → (before : List Row) × (last : Row) × (rs ≡ before ++ (last ∷ [])) × (i < last.index)
unfolding last_of
split_last [] i h = absurd (omega arith)
split_last (x ∷ []) i h = ([], x, refl, h)
split_last (x ∷ y ∷ rs) i h = let j = split_last (y ∷ rs) i h in (x ∷ j.0, j.1, ap (λ l. x ∷ l) j.2, j.3)

module _ (s : Session) (b : Buffers) (r : ReachedSession s) (line body : List ℕ) where
  abbrev t : Tables
  t = s.tables

  abbrev rows : AnyKind → List Row
  rows k = view_of k t b

  abbrev Says : SayingOne ℕ → Type 0
  Says x = SaysOne s.machine line body x

  abbrev said : CommandOne
  said = command_in s.machine s.name line body

  abbrev Said : CommandOne → Type 0
  Said c = SaidOne s.machine line body c

  -- No. 7
  no_fall_here : (i : ℕ) → falls t.headers i ≡ false → last_of (rows (first headers)) ≤ i
  no_fall_here i f = (no_fall t.headers i b.first.headers (kept_any s b r (first headers))).0 f

  pub falling_to : Falling Says rows → is_falling t said ≡ true
  falling_to x =
      let e = says_header s.machine line body s.name x.index x.said in
      ap (is_falling t) e ∙ assured (falls t.headers x.index) (λ f. omega (arith, no_fall_here x.index f, ap last_of x.shown ∙ last_is x.before x.last, x.falls))

  pub falling_from : (c : CommandOne) → Said c → is_falling t c ≡ true → Falling Says rows
  falling_from (recipient m) h e = absurd (false≢true e)
  falling_from (identity m) h e = absurd (false≢true e)
  falling_from key h e = absurd (false≢true e)
  falling_from (header i m) h e =
      let n : last_of (rows (first headers)) ≤ i → ⊥ = λ l. true≢false (sym e ∙ (no_fall t.headers i b.first.headers (kept_any s b r (first headers))).1 l) in
      let j = split_last (rows (first headers)) i (omega arith) in
      record { index = i; said = h; before = j.0; last = j.1; shown = j.2; falls = j.3 }
  falling_from done h e = absurd (false≢true e)
  falling_from other h e = absurd (false≢true e)
  falling_from (bad n) h e = absurd (false≢true e)

  -- No. 20
  abbrev repeated : CommandOne → Bool
  repeated c = is_repeated t b.first c (payload_of c line body)

  pub repeated_to : Twice Says t b.first.recipients → repeated said ≡ true
  repeated_to x =
      let e = says_recipient s.machine line body s.name x.text x.said in
      ap repeated e.0 ∙ (repeats_iff t.recipients b.first.recipients (argument_of line 1) (kept_any s b r (first recipients))).1 (x.earlier, x.there, x.held, x.equal ∙ e.1)

  pub repeated_from : (c : CommandOne) → Said c → repeated c ≡ true → Twice Says t b.first.recipients
  repeated_from (recipient m) h e =
      let i = (repeats_iff t.recipients b.first.recipients (argument_of line 1) (kept_any s b r (first recipients))).0 e in
      record { text = argument_of line 1; said = h; earlier = i.0; there = i.1; held = i.2; equal = i.3 }
  repeated_from (identity m) h e = absurd (false≢true e)
  repeated_from key h e = absurd (false≢true e)
  repeated_from (header i m) h e = absurd (false≢true e)
  repeated_from done h e = absurd (false≢true e)
  repeated_from other h e = absurd (false≢true e)
  repeated_from (bad n) h e = absurd (false≢true e)

  -- No. 8
  abbrev spaceless : CommandOne → Bool
  spaceless c = is_spaceless_one t b.first c (length (payload_of c line body))

  pub spaceless_one_to : SpacelessOne Says t b line body → spaceless said ≡ true
  spaceless_one_to (recipient_spaceless a h l) =
      let e = says_recipient s.machine line body s.name a h in ap spaceless e.0 ∙ (full_iff s b r (first recipients) (argument_of line 1)).1 (subst (Full t b (first recipients)) e.1 l)
  spaceless_one_to (identity_spaceless a h l) =
      let e = says_identity s.machine line body s.name a h in ap spaceless e.0 ∙ (full_iff s b r (first identities) (argument_of line 1)).1 (subst (Full t b (first identities)) e.1 l)
  spaceless_one_to (key_spaceless h l) = ap spaceless (says_key s.machine line body s.name h) ∙ (full_iff s b r (first keys) body).1 l
  spaceless_one_to (header_spaceless i h l) = ap spaceless (says_header s.machine line body s.name i h) ∙ (full_iff s b r (first headers) (stanza_payload line body)).1 l

  pub spaceless_one_from : (c : CommandOne) → Said c → spaceless c ≡ true → SpacelessOne Says t b line body
  spaceless_one_from (recipient m) h e = recipient_spaceless (argument_of line 1) h ((full_iff s b r (first recipients) (argument_of line 1)).0 e)
  spaceless_one_from (identity m) h e = identity_spaceless (argument_of line 1) h ((full_iff s b r (first identities) (argument_of line 1)).0 e)
  spaceless_one_from key h e = key_spaceless h ((full_iff s b r (first keys) body).0 e)
  spaceless_one_from (header i m) h e = header_spaceless i h ((full_iff s b r (first headers) (stanza_payload line body)).0 e)
  spaceless_one_from done h e = absurd (false≢true e)
  spaceless_one_from other h e = absurd (false≢true e)
  spaceless_one_from (bad n) h e = absurd (false≢true e)
