-- What an error names comes back whole: of any list of calls from an opening, refused ones included, the look-up of each error gives what its command named, since its
-- entry keeps all of it.
use Prim.Native.Nat.{ℕ, zero, suc, ◌+◌, ◌-◌, ◌<◌, ◌≤◌}
use mathlib.Core.Path.{◌≡◌, refl, sym, ap, subst, ◌∙◌}
use mathlib.Core.Bool.{Bool, true, false, ◌&&◌, true≢false}
use mathlib.Core.List.{List, [], ◌∷◌, ◌++◌, append-nil, append_assoc}
use lib.Dec.{eqb, ltb, leb}
use lib.ListN.{length, length-append}
use lib.Seq.{get_or-set_same, get_or-set_other}
use native.Mathlib.Decide.{dec_lt}
use native.Mathlib.Omega.{arith}
use borrow.Author.Tests.{eqb-true, eqb-false, ltb-true, ne_eqb, not-false}
use Rattle.refusal.specs.Pick.{pick}
use Rattle.refusal.specs.Same.{same}
use Rattle.refusal.proofs.Laws.Booleans.{and_true, cases}
use Rattle.refusal.proofs.Laws.Same.{same_eq}
use Rattle.stanza.specs.Arguments.{count_of, argument_of}
use Rattle.stanza.specs.Index.{ReadIndex, number, refused, read_index}
use Rattle.tables.specs.declared.slots.Entry.{Entry}
use Rattle.tables.specs.Tables.{Table, empty, fits, appended, entry, nothing, found}
use Rattle.tables.proofs.Laws.Tables.{Kept}
use Rattle.tables.proofs.Laws.LookUp.{find_none, find_there}
use Rattle.session.specs.Session.{Session, opened}
use Rattle.session.specs.Tables.{Tables, opened_tables}
use Rattle.session.specs.declared.phases.Phase.{Phase}
use Rattle.session.specs.declared.opening.Machine.{Machine}
use Rattle.session.specs.declared.opening.Machine.TheVariants.{RecipientV1, IdentityV1}
use Rattle.session.specs.declared.words.WordTwo.{WordTwo}
use Rattle.session.specs.declared.words.WordTwo.TheVariants.{Msg, Confirm, RequestPublic, RequestSecret, RecipientStanza, FileKey, Error, Other, Done}
use Rattle.phase_one.specs.Commands.{recipient_stanza_text, done_word, is_bare}
use Rattle.phase_one.specs.PhaseOne as one
use Rattle.phase_one.specs.PhaseOne.{command_in, payload_in}
use Rattle.conversation.specs.Calls.{Call, receive, send, receive_two, reply, send_two, respond, Outcome, in_two, brought_by, outcome, after}
use Rattle.conversation.specs.CommandsTwo.{Named, internal, identity, recipient, header, CommandTwo, ask, stanza, key, error, done, other, bad, msg_word, confirm_word, request_public, request_secret, file_key_word, error_word, internal_word, identity_word, recipient_word, stanza_word, work_word, word_two, are_labels, stanza_at, key_at, error_at, header_at, error_of, error_command, row_two, command_two}
use Rattle.conversation.specs.Kinds.{Buffers}
use Rattle.conversation.specs.PhaseTwo.{BuffersTwo, mark_of, index_of, fault_of, decided, applied, errors}
use Rattle.conversation.proofs.Laws.Accepted.{Applied, AppliedTwo, command_at, payload_at, AcceptedBy, accepted}
use Rattle.conversation.proofs.Laws.DecidedTwo.{decided_iff}
use Rattle.conversation.proofs.Laws.Reached.{ReachedSession, opening_reached, call_reached}
use Rattle.conversation.proofs.Laws.Refusals.{refusal}
use Rattle.conversation.proofs.Laws.ViewsTwo.{kept_two, one_leaves}
use Rattle.look_up.specs.ErrorNames.{name_read, header_read, error_read, names_brought, names_in, name_at}
use Rattle.look_up.specs.LookUp.{named_by, named_in, error_named}

-- ---- what an accepted command names is what its text says

-- what a command that was read names
abbrev names_of : CommandTwo → List Named
names_of (ask w) = []
names_of (stanza f) = []
names_of (key f) = []
names_of (error n) = n ∷ []
names_of done = []
names_of other = []
names_of (bad n) = []

-- a command names these if it has no fault; it has one
abbrev Says : List Named → CommandTwo → Type 0
Says ns c = fault_of c ≡ 0 → names_of c ≡ ns

abbrev Faulty : CommandTwo → Type 0
Faulty c = fault_of c ≡ 0 → ⊥

four : Faulty (bad 4)
four e = omega arith

-- no word but the one that is tested first
skip : (f g : Bool) (c d : CommandTwo) → f ≡ false → Faulty d → Faulty (pick (f && g) c d)
skip true g c d e h = absurd (true≢false e)
skip false g c d e h = h

says_either : (f g : Bool) (c d : CommandTwo) (ns ms : List Named) → Says ns c → (f ≡ true → Faulty d) → (f ≡ false → Says ms d) → Says (pick f ns ms) (pick (f && g) c d)
says_either true true c d ns ms p q r = p
says_either true false c d ns ms p q r = λ e. absurd (q refl e)
says_either false g c d ns ms p q r = r refl

-- a text that is one word is not another
differs : (t v w : List ℕ) → same v w ≡ false → same t v ≡ true → same t w ≡ false
differs t v w e h = ap (λ x. same x w) (same_eq t v h) ∙ e

name_says : (name : ℕ → Named) (i : ReadIndex) → Says (name_read name i) (error_at name i)
name_says name (number i) = λ e. refl
name_says name (refused n) = λ e. refl

header_says : (f i : ReadIndex) → Says (header_read f i) (header_at f i)
header_says (number f) (number i) = λ e. refl
header_says (number f) (refused n) = λ e. refl
header_says (refused n) i = λ e. refl

module _ (line : List ℕ) where
  abbrev kind : List ℕ
  kind = argument_of line 1

  abbrev is : List ℕ → Bool
  is w = same kind w

  -- behind "internal" and "identity"
  last_faulty : (m : Machine) → is recipient_word ≡ false → is stanza_word ≡ false → Faulty (error_of m line)
  last_faulty RecipientV1 r s = skip (is recipient_word) (eqb (count_of line) 3) _ (bad 4) r four
  last_faulty IdentityV1 r s = skip (is stanza_word) (eqb (count_of line) 4) _ (bad 4) s four

  last_says : (m : Machine) →
      Says (pick (is recipient_word) (name_read recipient (read_index (argument_of line 2))) (pick (is stanza_word) (header_read (read_index (argument_of line 2)) (read_index (argument_of line 3))) [])) (error_of m line)
  unfolding same
  last_says RecipientV1 =
      says_either (is recipient_word) (eqb (count_of line) 3) _ (bad 4) _ _ (name_says recipient (read_index (argument_of line 2))) (λ e. four) (λ e z. absurd (four z))
  last_says IdentityV1 =
      cases (is recipient_word) (λ e z. absurd (last_faulty_stanza e z))
      (λ e. rw e (says_either (is stanza_word) (eqb (count_of line) 4) _ (bad 4) _ _ (header_says (read_index (argument_of line 2)) (read_index (argument_of line 3))) (λ e. four) (λ e z. absurd (four z))))
    where
      last_faulty_stanza : is recipient_word ≡ true → Faulty (error_of IdentityV1 line)
      last_faulty_stanza e = skip (is stanza_word) (eqb (count_of line) 4) _ (bad 4) (differs kind recipient_word stanza_word refl e) four

  error_says : (m : Machine) → Says (error_read line) (error_command m line)
  unfolding same
  error_says m =
      says_either (is internal_word) (eqb (count_of line) 2) (error internal) _ _ _ (λ e. refl)
      (λ e. skip (is identity_word) (eqb (count_of line) 3) _ _ (differs kind internal_word identity_word refl e) (last_faulty m (differs kind internal_word recipient_word refl e) (differs kind internal_word stanza_word refl e)))
      (λ e. says_either (is identity_word) (eqb (count_of line) 3) _ _ _ _ (name_says identity (read_index (argument_of line 2)))
      (λ e. last_faulty m (differs kind identity_word recipient_word refl e) (differs kind identity_word stanza_word refl e)) (λ e. last_says m))

  -- any other word's command names nothing
  none_either : (f : Bool) (c d : CommandTwo) → names_of c ≡ [] → names_of d ≡ [] → names_of (pick f c d) ≡ []
  none_either true c d p q = p
  none_either false c d p q = q

  stanza_none : (i : ReadIndex) → names_of (stanza_at i) ≡ []
  stanza_none (number f) = refl
  stanza_none (refused n) = refl

  key_none : (i : ReadIndex) → names_of (key_at i) ≡ []
  key_none (number f) = refl
  key_none (refused n) = refl

  row_none : (w : WordTwo) (m : Machine) (n : ℕ) → (w ≡ Error → ⊥) → names_of (row_two w m line n) ≡ []
  row_none Msg m n h = none_either (eqb (count_of line) 1) (ask Msg) (bad 4) refl refl
  row_none Confirm m n h = none_either (are_labels line) (ask Confirm) (bad 4) refl refl
  row_none RequestPublic m n h = none_either (eqb (count_of line) 1) (ask RequestPublic) (bad 4) refl refl
  row_none RequestSecret m n h = none_either (eqb (count_of line) 1) (ask RequestSecret) (bad 4) refl refl
  row_none RecipientStanza m n h = none_either (leb 3 (count_of line)) _ (bad 4) (stanza_none (read_index (argument_of line 1))) refl
  row_none FileKey m n h = none_either (eqb (count_of line) 2 && eqb n 16) _ (bad 4) (key_none (read_index (argument_of line 1))) refl
  row_none Error m n h = absurd (h refl)
  row_none Other m n h = refl
  row_none Done m n h = none_either (is_bare line n 0) done (bad 4) refl refl

-- the word error alone names an error
pass : (f : Bool) (v w : WordTwo) {X : Type 0} → (v ≡ Error → X) → (w ≡ Error → X) → pick f v w ≡ Error → X
pass true v w p q = p
pass false v w p q = q

named_error : (m : Machine) (w : List ℕ) → same w error_word ≡ false → word_two m w ≡ Error → ⊥
named_error m w h =
    pass (same w msg_word) Msg _ (λ e. zero_one (cc))
    (pass (same w confirm_word) Confirm _ (λ e. zero_one (cc))
    (pass (same w request_public) RequestPublic _ (λ e. zero_one (cc))
    (pass (same w request_secret) RequestSecret _ (λ e. zero_one (cc))
    (λ e. pass (same w done_word) Done _ (λ e. zero_one (cc)) (work m) (sym (ap (λ f. pick f Error (pick (same w done_word) Done (work_word m w))) h) ∙ e)))))
  where
    zero_one : ◌≡◌ {A = ℕ} 0 1 → ⊥
    zero_one e = omega arith

    work : (m : Machine) → work_word m w ≡ Error → ⊥
    work RecipientV1 = pass (same w recipient_stanza_text) RecipientStanza Other (λ e. zero_one (cc)) (λ e. zero_one (cc))
    work IdentityV1 = pass (same w file_key_word) FileKey Other (λ e. zero_one (cc)) (λ e. zero_one (cc))

error_word_lem : (m : Machine) → word_two m error_word ≡ Error
unfolding same
error_word_lem m = refl

command_says : (m : Machine) (line body : List ℕ) → Says (names_brought (in_two line body)) (command_two m line body)
unfolding command_two
command_says m line body =
    let word = argument_of line 0 in
    cases (same word error_word)
    (λ e. by e (subst (λ w. Says (error_read line) (row_two w m line (length body))) (sym (ap (word_two m) (same_eq word error_word e) ∙ error_word_lem m)) (error_says line m)))
    (λ e. by e (λ z. row_none line (word_two m word) m (length body) (named_error m word e)))
  where
    by : {f : Bool} → same (argument_of line 0) error_word ≡ f → Says (pick f (error_read line) []) (row_two (word_two m (argument_of line 0)) m line (length body)) →
        Says (pick (same (argument_of line 0) error_word) (error_read line) []) (row_two (word_two m (argument_of line 0)) m line (length body))
    by e p = subst (λ f. Says (pick f (error_read line) []) (row_two (word_two m (argument_of line 0)) m line (length body))) (sym e) p

-- ---- names by number

name_before : (ns ms : List Named) (k : ℕ) → k < length ns → name_at (ns ++ ms) k ≡ name_at ns k
unfolding name_at
name_before [] ms k h = absurd (omega arith)
name_before (n ∷ ns) ms zero h = refl
name_before (n ∷ ns) ms (suc k) h = name_before ns ms k (omega arith)

name_here : (ns : List Named) (n : Named) → name_at (ns ++ (n ∷ [])) (length ns) ≡ n ∷ []
unfolding name_at
name_here [] n = refl
name_here (m ∷ ns) n = name_here ns n

name_beyond : (ns : List Named) (k : ℕ) → length ns ≤ k → [] ≡ name_at ns k
unfolding name_at
name_beyond [] k h = refl
name_beyond (n ∷ ns) zero h = absurd (omega arith)
name_beyond (n ∷ ns) (suc k) h = name_beyond ns k (omega arith)

-- ---- the error that is stored last: its entry gives back what it names

named_last : (n : Named) (start size : ℕ) → named_by (record { start = start; length = size; index = index_of n; mark = mark_of n }) ≡ n ∷ []
named_last internal start size = refl
named_last (identity i) start size = refl
named_last (recipient i) start size = refl
named_last (header f i) start size =
    rw (ne_eqb (3 + f) 0 (λ e. omega arith), ne_eqb (3 + f) 1 (λ e. omega arith), ne_eqb (3 + f) 2 (λ e. omega arith)) (let e : 3 + f - 3 ≡ f = omega arith in ap (λ f. header f i ∷ []) e)

-- ---- one error more

module _ (t : Table) (n index mark : ℕ) (h : t.count < t.width) (w : Kept t) where
  abbrev last : Entry
  last = record { start = t.used; length = n; index = index; mark = mark }

  more_before : (k : ℕ) → k < t.count → found (appended t n index mark) k ≡ found t k
  more_before k g =
      sym (find_there (appended t n index mark) k (omega arith) (omega arith))
      ∙ ap entry (get_or-set_other t.slots t.count k last empty (λ e. omega arith))
      ∙ find_there t k g (omega arith)

  more_here : found (appended t n index mark) t.count ≡ entry last
  more_here =
      sym (find_there (appended t n index mark) t.count (omega arith) h) ∙ ap entry (get_or-set_same t.slots t.count last empty (omega (arith, w.wide)))

  more_beyond : (k : ℕ) → t.count < k → found (appended t n index mark) k ≡ nothing
  more_beyond k g = sym (find_none (appended t n index mark) k (omega arith))

-- ---- the errors of tables name these, in order

record Names (t : Tables) (ns : List Named) : Type 0 where
  counted : t.errors.count ≡ length ns
  named : (k : ℕ) → error_named t k ≡ name_at ns k

-- also where the errors are the same
same_names : (t u : Tables) (ns : List Named) → u.errors ≡ t.errors → Names t ns → Names u ns
same_names t u ns e r = record { counted = ap (λ x. x.count) e ∙ r.counted; named = λ k. ap (λ x. named_in (found x k)) e ∙ r.named k }

-- one entry more
more_names : (t u : Tables) (n : Named) (size : ℕ) (ns : List Named) → Kept t.errors → t.errors.count < t.errors.width → u.errors ≡ appended t.errors size (index_of n) (mark_of n) → Names t ns →
    Names u (ns ++ (n ∷ []))
more_names t u n size ns w h e r =
    let after = appended t.errors size (index_of n) (mark_of n) in
    let l = length-append ns (n ∷ []) in
    let c = r.counted in
    record {
      counted = ap (λ x. x.count) e ∙ omega arith;
      named = λ k. ap (λ y. named_in (found y k)) e
          ∙ elim (dec_lt k t.errors.count) [
            | yes g ↦ ap named_in (more_before t.errors size (index_of n) (mark_of n) h w k g) ∙ r.named k ∙ sym (name_before ns (n ∷ []) k (omega arith))
            | no g ↦
                elim (dec_lt t.errors.count k) [
                  | yes j ↦ ap named_in (more_beyond t.errors size (index_of n) (mark_of n) h w k j) ∙ name_beyond (ns ++ (n ∷ [])) k (omega arith)
                  | no j ↦
                      let i : k ≡ t.errors.count = omega arith in
                      ap (λ x. named_in (found after x)) i ∙ ap named_in (more_here t.errors size (index_of n) (mark_of n) h w) ∙ named_last n t.errors.used size ∙ sym (name_here ns n)
                      ∙ ap (name_at (ns ++ (n ∷ []))) (sym (i ∙ c))
                ]
          ];
    }

-- an accepted error
error_names : (own : Bool) (t : Tables) (b : BuffersTwo) (n : Named) (p : List ℕ) (ns : List Named) → decided own t b (error n) (length p) ≡ 0 → Kept t.errors → Names t ns → Names (applied t b (error n) p) (ns ++ (n ∷ []))
error_names own t b n p ns z w r =
    let g = (decided_iff own t b (error n) (length p)).0 z in
    let f : fits t.errors (length p) (length b.errors) ≡ true = not-false (fits t.errors (length p) (length b.errors)) g.space in
    let h = (and_true (ltb t.errors.count t.errors.width) (leb (t.errors.used + length p) (length b.errors)) f).0 in
    more_names t (applied t b (error n) p) n (length p) ns w (ltb-true t.errors.count t.errors.width h) (ap (λ x. pick x (appended t.errors (length p) (index_of n) (mark_of n)) t.errors) f) r

-- a command of phase two
two_names : (own : Bool) (t : Tables) (b : BuffersTwo) (c : CommandTwo) (p : List ℕ) (ns : List Named) → decided own t b c (length p) ≡ 0 → Kept t.errors → Names t ns → Names (applied t b c p) (ns ++ names_of c)
two_names own t b (ask w) p ns z k r = rw append-nil r
two_names own t b (stanza f) p ns z k r = rw append-nil (same_names t _ ns refl r)
two_names own t b (key f) p ns z k r = rw append-nil (same_names t _ ns refl r)
two_names own t b (error n) p ns z k r = error_names own t b n p ns z k r
two_names own t b done p ns z k r = rw append-nil r
two_names own t b other p ns z k r = rw append-nil r
two_names own t b (bad n) p ns z k r = rw append-nil r

-- ---- calls

module _ (s : Session) (b : Buffers) (r : ReachedSession s) (ns : List Named) (w : Names s.tables ns) where
  -- an accepted command of phase one leaves the errors
  one_so : (line body : List ℕ) (b' : one.BuffersOne) (s' : Session) → Applied s b.first line body s' b' → Names s'.tables (ns ++ [])
  one_so line body b' s' a =
      rw append-nil
      (same_names s.tables s'.tables ns
      (ap (λ x. x.tables.errors) a.session ∙ one_leaves s.tables (payload_in s.machine s.name line body) b.first (command_in s.machine s.name line body) errors) w)

  -- .. of phase two
  two_so : (own : Bool) (line body : List ℕ) (phase : Phase) (text out : List ℕ) (o : Outcome) → AppliedTwo own s b line body phase text out o → Names o.session.tables (ns ++ names_brought (in_two line body))
  two_so own line body phase text out o a =
      let c = command_at s line body in
      let says = command_says s.machine line body ((decided_iff own s.tables b.second c (length (payload_at s line body))).0 a.faultless).right in
      subst (λ x. Names x.tables (ns ++ names_brought (in_two line body))) (sym a.session)
      (subst (λ l. Names (applied s.tables b.second c (payload_at s line body)) (ns ++ l)) says
      (two_names own s.tables b.second c (payload_at s line body) ns a.faultless (kept_two s.tables r.later_tables errors) w))

  -- .. an answer
  same_so : (u : Tables) → u ≡ s.tables → Names u (ns ++ [])
  same_so u e = rw (append-nil, e) w

  accepted_so : (c : Call) → AcceptedBy s b c → Names (outcome s b c).session.tables (ns ++ names_brought (brought_by c))
  accepted_so (receive text) a = one_so _ _ (outcome s b (receive text)).buffers.first _ a.applied
  accepted_so (send word arguments body out) a = one_so _ _ (outcome s b (send word arguments body out)).buffers.first _ a.applied
  accepted_so (receive_two text out) a = two_so false _ _ _ _ _ (outcome s b (receive_two text out)) a
  accepted_so (reply x body out) a = same_so _ (ap (λ x. x.tables) a.session)
  accepted_so (send_two word arguments body out) a = two_so true _ _ _ _ _ (outcome s b (send_two word arguments body out)) a
  accepted_so (respond text out) a = same_so _ (ap (λ x. x.tables) a.1.session)

  -- any call, accepted or refused
  call_names : (c : Call) → Names (outcome s b c).session.tables (ns ++ pick (eqb (outcome s b c).number 0) (names_brought (brought_by c)) [])
  call_names c =
      cases (eqb (outcome s b c).number 0) (λ f. rw f (accepted_so c (accepted s b c (eqb-true (outcome s b c).number 0 f))))
      (λ f. rw f (same_so _ (refusal s b c (eqb-false (outcome s b c).number 0 f)).tables))

-- a list of calls
names_after : (s : Session) (b : Buffers) (cs : List Call) (ns : List Named) → ReachedSession s → Names s.tables ns → Names (after s b cs).session.tables (ns ++ names_in s b cs)
unfolding after names_in
names_after s b [] ns r w = rw append-nil w
names_after s b (c ∷ cs) ns r w =
    subst (Names (after (outcome s b c).session (outcome s b c).buffers cs).session.tables) (append_assoc ns _ _)
    (names_after (outcome s b c).session (outcome s b c).buffers cs _ (call_reached s b c r) (call_names s b r ns w c))

-- of any list of calls from an opening, the look-up of error k gives what the k-th accepted error names, both numbers of a header stanza; nothing beyond
pub names_opened : (machine name : List ℕ) (screen : Bool) (b : Buffers) (cs : List Call) (k : ℕ) →
    error_named (after (opened machine name screen).session b cs).session.tables k ≡ name_at (names_in (opened machine name screen).session b cs) k
unfolding name_at
names_opened machine name screen b cs k =
    (names_after (opened machine name screen).session b cs [] (opening_reached machine name screen) (record { counted = refl; named = λ k. ap named_in (sym (find_none opened_tables.errors k (omega arith))) })).named k
