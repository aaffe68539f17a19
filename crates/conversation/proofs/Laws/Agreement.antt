-- Our two ends agree in phase one: what the client sends the plugin accepts, and their tables stay equal.
use Prim.Native.Nat.{ℕ, ◌+◌, ◌≤◌}
use mathlib.Core.Path.{◌≡◌, refl, sym, ap, ap₂, ◌∙◌, subst}
use mathlib.Core.Bool.{Bool, true, false}
use mathlib.Core.List.{List, [], ◌++◌}
use lib.Dec.{eqb, leb, ltb}
use lib.ListN.{length, take, drop, take-append-drop}
use lib.Pow.{are_bytes}
use lib.Seq.{take-append_seam}
use native.Mathlib.Omega.{arith}
use borrow.Author.Tests.{eq-eqb, le-leb, leb-true}
use Rattle.refusal.specs.Output.{bytes, overflows, filled}
use Rattle.refusal.specs.Pick.{pick}
use Rattle.refusal.proofs.Laws.Booleans.{and_true, true_and}
use Rattle.stanza.specs.Arguments.{is_line}
use Rattle.stanza.specs.Grammar.{stanza_text}
use Rattle.stanza.specs.Reading.{read_first}
use Rattle.stanza.specs.Writing.{is_writable}
use Rattle.stanza.proofs.Laws.RoundTrip.{read_written, read_arguments, read_body}
use Rattle.tables.specs.Repeats.{repeats}
use Rattle.tables.specs.Tables.{Table, fits, appended, entered, view}
use Rattle.tables.proofs.Laws.Tables.{Kept}
use Rattle.phase_one.specs.Commands.{CommandOne, recipient, identity, key, header, done, other, bad, WordOne, word_of, line_sent}
use Rattle.session.specs.Tables.{Tables}
use Rattle.phase_one.specs.PhaseOne.{BuffersOne, command_in, payload_in, falls, decided, applied, number_one}
use Rattle.refusal.specs.Verdict.{first_of}
use Rattle.phase_one.specs.Turns.{turn_one}
use Rattle.phase_one.specs.Views.{KindOne, recipients, identities, keys, headers, table_of, buffer_of, view_of, rows_of}
use Rattle.session.specs.declared.phases.Phase.TheVariants.{One}
use Rattle.phase_one.proofs.Laws.Views.{Reached, space, recipient_space, header_space}
use Rattle.session.specs.Session.{Session, opened}
use Rattle.conversation.specs.Agreement.{Alike, Agreed, SameViews}
use Rattle.conversation.specs.Receiving.{took, Received, refused_receipt, received_stanza, received_as, received}
use Rattle.conversation.specs.Sending.{Sent, sent}
use Rattle.conversation.specs.Kinds as kinds
use Rattle.conversation.specs.PhaseTwo as two
use Rattle.conversation.specs.Calls.{sent_number, sent_size, sent_outcome, send}
use Rattle.conversation.proofs.Laws.Accepted.{Applied, AppliedOne, applied_rows, one_applied, accepted}
use Rattle.conversation.proofs.Laws.Limits.{Without, no_repeat}

-- ---- the decision again, with other buffers that are long enough

-- one kind: what fitted at the one end fits at the other
fits_again : (t : Table) (n index mark c c' : ℕ) → fits t n c ≡ true → (entered t n index mark c).used ≤ c' → fits t n c' ≡ fits t n c
fits_again t n index mark c c' f h =
    let u : t.used + n ≤ c' = subst (λ g. (pick g (appended t n index mark) t).used ≤ c') f h in
    true_and (ltb t.count t.width) (leb (t.used + n) c') (and_true (ltb t.count t.width) (leb (t.used + n) c) f).0 (le-leb (t.used + n) c' u) ∙ sym f

-- one kind: what the one end's buffer does not show the other's does not, where both are long enough for the entries and show the same rows
repeats_again : (t : Table) (b b' p : List ℕ) → Kept t → t.used ≤ length b → t.used ≤ length b' → view t b ≡ view t b' → repeats t b p ≡ false → repeats t b' p ≡ false
repeats_again t b b' p k u u' v f = (no_repeat t b' p k u').1 (subst (Without p) v ((no_repeat t b p k u).0 f))

module _ (t : Tables) (b b' : BuffersOne) (p : List ℕ) (j : Reached t) (v : view_of recipients t b ≡ view_of recipients t b') where
  -- the other end's buffers are long enough for what the tables then take
  abbrev Enough : CommandOne → Type 0
  Enough c = (k : KindOne) → (table_of k (applied t b c p)).used ≤ length (buffer_of k b')

  -- the same number, and the same tables
  again : (c : CommandOne) → decided t b c p ≡ 0 → Enough c → (decided t b' c p ≡ 0) × (applied t b' c p ≡ applied t b c p)
  unfolding Reached
  again (recipient m) h r =
      let z = recipient_space (repeats t.recipients b.recipients p) (fits t.recipients (length p) (length b.recipients)) h in
      let e = fits_again t.recipients (length p) 0 m (length b.recipients) (length b'.recipients) z.0 (r recipients) in
      let f = repeats_again t.recipients b.recipients b'.recipients p (j recipients).kept_so (room t.recipients (length p) (length b.recipients) z.0) (room t.recipients (length p) (length b'.recipients) (e ∙ z.0)) v z.1 in
      (rw (f, e, z.0), rw e)
    where
      room : (t : Table) (n c : ℕ) → fits t n c ≡ true → t.used ≤ c
      room t n c f = omega (arith, leb-true (t.used + n) c (and_true (ltb t.count t.width) (leb (t.used + n) c) f).1)
  again (identity m) h r =
      let e = fits_again t.identities (length p) 0 m (length b.identities) (length b'.identities) (space (fits t.identities (length p) (length b.identities)) h) (r identities) in
      (ap (λ x. pick x 0 8) e ∙ h, rw e)
  again key h r =
      let e = fits_again t.keys (length p) 0 0 (length b.keys) (length b'.keys) (space (fits t.keys (length p) (length b.keys)) h) (r keys) in
      (ap (λ x. pick x 0 8) e ∙ h, rw e)
  again (header i m) h r =
      let e = fits_again t.headers (length p) i m (length b.headers) (length b'.headers) (header_space (falls t.headers i) (fits t.headers (length p) (length b.headers)) h).0 (r headers) in
      (ap (λ x. pick (falls t.headers i) 7 (pick x 0 8)) e ∙ h, rw e)
  again done h r = (refl, refl)
  again other h r = (refl, refl)
  again (bad n) h r = (h, refl)

-- ---- the plugin's side: what it reads

module _ (s : Session) (b : BuffersOne) (line body : List ℕ) where
  text_received : (rest : List ℕ) → s.phase ≡ One → is_writable line body ≡ true → are_bytes body ≡ true →
      received s (stanza_text line body ++ rest) b ≡ received_stanza s b line body (length (stanza_text line body))
  unfolding received
  text_received rest o w a =
      let text = stanza_text line body ++ rest in
      ap (λ p. pick (eqb (turn_one p) 0) (received_as (read_first text) s text b) (refused_receipt (turn_one p) s b)) o ∙ ap (λ r. received_as r s text b) (read_written line body rest a w)
      ∙ ap₂ (λ l y. received_stanza s b l y (length (stanza_text line body))) (read_arguments line body rest) (read_body line body rest a)

  -- accepted, and its command applied
  abbrev TookAs : ℕ → Received → Type 0
  TookAs k r = (r.answer ≡ took (word_of (command_in s.machine s.name line body)) k) × Applied s b line body r.session r.buffers

  -- a stanza in which the decision finds no fault
  stanza_took : (k : ℕ) → s.phase ≡ One → is_line line ≡ true → decided s.tables b (command_in s.machine s.name line body) (payload_in s.machine s.name line body) ≡ 0 →
      TookAs k (received_stanza s b line body k)
  unfolding received_stanza
  stanza_took k o l h =
      let n = number_one s.machine s.name s.tables b 0 line body in
      let f = eq-eqb n 0 (ap (λ d. first_of d 0) h) in
      chosen (TookAs k) (eqb n 0) _ _ f (refl, one_applied s b 0 line body o l f)
    where
      chosen : {X : Type 0} (P : X → Type 0) (f : Bool) (x y : X) → f ≡ true → P x → P (pick f x y)
      chosen P f x y e p = subst (λ g. P (pick g x y)) (sym e) p

-- ---- both

-- phase one's buffers, with none of phase two's beside them
abbrev lent : BuffersOne → kinds.Buffers
lent b = kinds.buffers_of b (two.buffers_of [] [] [])

-- a sending and its receipt agree, and the views that were equal are equal again
record Both (s : Session) (line body : List ℕ) (n : ℕ) (r : Sent) (r' : Received) : Type 0 where
  agreed : Agreed s line body n r r'
  views : SameViews r.session r.buffers r'.session r'.buffers

-- the plugin's session is the client's with a screen of its own
alike_is : (s s' : Session) → Alike s s' → ◌≡◌ {A = Session} (record { machine = s.machine; name = s.name; screen = s'.screen; phase = s.phase; tables = s.tables }) s'
alike_is s s' a = rw (a.machine, a.name, a.phase, a.tables)

-- the client's side: a stanza's text at the front of the output buffer
front : (text out : List ℕ) → overflows text out ≡ false → take (length text) (filled text out) ≡ text
front text out e = ap (λ f. take (length text) (pick f out (text ++ drop (length text) out))) e ∙ take-append_seam text (drop (length text) out)

module _ (s : Session) (b b' : BuffersOne) (line body out : List ℕ) (n : ℕ) (r : Sent) where
  agreed_like : (screen : Bool) (rest : List ℕ) → Reached s.tables → ((k : KindOne) → view_of k s.tables b ≡ view_of k s.tables b') → are_bytes body ≡ true → AppliedOne s (lent b) line body (stanza_text line body) out (sent_outcome (lent b).second r) → r.answer ≡ bytes n →
      ((k : KindOne) → (table_of k r.session.tables).used ≤ length (buffer_of k b')) →
      let s' : Session = record { machine = s.machine; name = s.name; screen = screen; phase = s.phase; tables = s.tables } in
      Both s line body n r (received s' (stanza_text line body ++ rest) b')
  agreed_like screen rest j v a w q l =
      let s' : Session = record { machine = s.machine; name = s.name; screen = screen; phase = s.phase; tables = s.tables } in
      let r' : Received = received s' (stanza_text line body ++ rest) b' in
      let p : Applied s b line body r.session r.buffers = w.applied in
      let m : n ≡ length (stanza_text line body) = sym (ap sent_size q) ∙ w.written.size in
      let g = again s.tables b b' (payload_in s.machine s.name line body) j (v recipients) (command_in s.machine s.name line body) p.faultless (λ k. subst (λ x. (table_of k x.tables).used ≤ length (buffer_of k b')) p.session (l k)) in
      let h : TookAs s' b' line body (length (stanza_text line body)) r' =
      subst (TookAs s' b' line body (length (stanza_text line body))) (sym (text_received s' b' line body rest p.turn w.writable a)) (stanza_took s' b' line body (length (stanza_text line body)) p.turn p.argued g.0) in
      let p' = h.1 in
      record {
        agreed = record {
          written = ap₂ take m w.written.output ∙ front (stanza_text line body) out w.written.fits;
          answer = h.0 ∙ ap (took (word_of (command_in s.machine s.name line body))) (sym m);
          alike = record {
            machine = ap (λ x. x.machine) p.session ∙ sym (ap (λ x. x.machine) p'.session);
            name = ap (λ x. x.name) p.session ∙ sym (ap (λ x. x.name) p'.session);
            phase = ap (λ x. x.phase) p.session ∙ sym (ap (λ x. x.phase) p'.session);
            tables = ap (λ x. x.tables) p.session ∙ sym g.1 ∙ sym (ap (λ x. x.tables) p'.session);
          };
        };
        views = λ k.
            applied_rows s b line body r.session r.buffers p j k ∙ ap (λ l. l ++ rows_of (command_in s.machine s.name line body) k (payload_in s.machine s.name line body)) (v k)
            ∙ sym (applied_rows s' b' line body r'.session r'.buffers p' j k);
      }

module _ (s s' : Session) (b b' : BuffersOne) (word : WordOne) (arguments body out text : List ℕ) (n : ℕ) (a : Alike s s') (j : Reached s.tables) (v : SameViews s b s' b') (y : are_bytes body ≡ true)
    (q : (sent s word arguments body b out).answer ≡ bytes n) (e : take n text ≡ take n (sent s word arguments body b out).output)
    (l : (k : KindOne) → (table_of k (sent s word arguments body b out).session.tables).used ≤ length (buffer_of k b')) where
  both : Both s (line_sent word arguments) body n (sent s word arguments body b out) (received s' text b')
  both =
      let r = sent s word arguments body b out in
      let line = line_sent word arguments in
      let g = agreed_like s b b' line body out n r s'.screen (drop n text) j (λ k. v k ∙ ap (λ t. view_of k t b') (sym a.tables)) y (accepted s (lent b) (send word arguments body out) (ap sent_number q)) q l in
      let f : stanza_text line body ++ drop n text ≡ text = ap (λ x. x ++ drop n text) (sym (e ∙ g.agreed.written)) ∙ take-append-drop n text in
      subst (λ x. Both s line body n r (received s' x b')) f (subst (λ x. Both s line body n r (received x (stanza_text line body ++ drop n text) b')) (alike_is s s' a) g)

  -- what the client sends the plugin accepts, at the front of any text that begins with it, where their tables show the same and each of its buffers is long enough for
  -- what the client's table takes
  pub agreement : Agreed s (line_sent word arguments) body n (sent s word arguments body b out) (received s' text b')
  agreement = both.agreed

  -- and their tables show the same again
  pub views_agree :
      SameViews (sent s word arguments body b out).session (sent s word arguments body b out).buffers (received s' text b').session (received s' text b').buffers
  views_agree = both.views

-- the two ends open alike
pub opened_alike : (machine name : List ℕ) (screen screen' : Bool) → Alike (opened machine name screen).session (opened machine name screen').session
opened_alike machine name screen screen' = record { machine = refl; name = refl; phase = refl; tables = refl }
