-- The numbers that the stanzas of a chunk give: what holds of 0, 1, 3 to 12 and 20 holds of each, since the output of `ample` is long enough for any.
use Prim.Native.Nat.{ℕ, ◌≤◌}
use mathlib.Core.Path.{◌≡◌, refl, sym, ap, subst, ◌∙◌}
use mathlib.Core.Bool.{Bool, true, false}
use mathlib.Core.Logic.{◌⊎◌, inl, inr, ⊎_elim}
use mathlib.Core.List.{List, [], ◌∷◌, ◌++◌}
use lib.Dec.{T, eqb, ltb}
use lib.ListN.{length, length-replicate}
use native.Mathlib.Omega.{arith}
use Rattle.refusal.specs.Pick.{pick}
use Rattle.refusal.specs.Verdict.{first_of}
use Rattle.strict_base64.proofs.Laws.Lines.{lines_length}
use Rattle.stanza.specs.Grammar.{stanza_text}
use Rattle.stanza.specs.Reading.{Reading, stanza, refused, read_first}
use Rattle.stanza.proofs.Laws.RoundTrip.{body_limit}
use Rattle.stanza.proofs.Laws.Writing.{text_length}
use Rattle.responses.specs.Responses.{ResponseRead, response, nothing, response_of, response_line, fits_whole}
use Rattle.responses.specs.declared.Response.{Response}
use Rattle.responses.specs.declared.Response.TheVariants.{Ok, Yes, No, Fail, Unsupported}
use Rattle.session.specs.declared.words.WordTwo.{WordTwo}
use Rattle.session.specs.declared.phases.Phase.{Phase}
use Rattle.session.specs.declared.phases.Phase.TheVariants.{One, Two, Awaiting, Ended, Closed}
use Rattle.session.specs.Phases.{closes}
use Rattle.session.specs.Session.{Session}
use Rattle.session.specs.Tables.{Tables}
use Rattle.session.specs.declared.opening.Machine.{Machine}
use Rattle.tables.specs.Repeats.{repeats}
use Rattle.tables.specs.Tables.{fits}
use Rattle.phase_one.specs.Commands as one_command
use Rattle.phase_one.specs.PhaseOne as one
use Rattle.phase_one.specs.Turns.{turn_one}
use Rattle.conversation.specs.Calls.{receive, receive_two, respond, outcome, body_read}
use Rattle.conversation.specs.CommandsTwo as two_command
use Rattle.conversation.specs.CommandsTwo.{CommandTwo}
use Rattle.conversation.specs.Kinds.{Buffers}
use Rattle.conversation.specs.Phases.{All, line_in, body_in}
use Rattle.conversation.specs.PhaseTwo as two
use Rattle.conversation.specs.ReceivingTwo.{AtOnce, writes, silent, at_once, text_of}
use Rattle.conversation.specs.Sending.{shortness}
use Rattle.conversation.specs.TurnsTwo.{turn_two, Due, due, undue, due_in}
use Rattle.conversation.proofs.Laws.NumberParts.{as_read, decided_one, decided_two, at_once_text, by_due, unfitness, given_receive, given_receive_two, given_respond}
use Rattle.conversation.proofs.Laws.RowsOne.{SaidOne, said_one}
use Rattle.conversation.proofs.Laws.RowsTwo.{SaidTwo, said_two}
use Rattle.conversation.proofs.Laws.Refusals.{either}
use Rattle.conversation.proofs.Laws.StepsTwo.{long_enough}
use Rattle.stanza.specs.Automaton.{State, next}
use Rattle.chunks.specs.Cutting.{Rest, unfinished, impossible, bytes_of, Cut, onward, front_onward, cut_at, cut}
use Rattle.chunks.specs.Taking.{End, client, plugin, Turn, reads, drops, keeps_back, turn_at, ample, stanza_call, awaited_behind, Taken, taken_rest, taken_all}
use Rattle.chunks.proofs.Laws.Cutting.{by_place}
use Rattle.chunks.proofs.Laws.Cases.{drops_not_reads, keeps_not_reads, keeps_not_drops, stanza_cases}

-- ---- what is written at once, and a response's body, are short

response_short : (r : Response) → length (stanza_text (response_line r) []) ≤ 16
response_short Ok = omega (arith, text_length (response_line Ok) [], lines_length [])
response_short Yes = omega (arith, text_length (response_line Yes) [], lines_length [])
response_short No = omega (arith, text_length (response_line No) [], lines_length [])
response_short Fail = omega (arith, text_length (response_line Fail) [], lines_length [])
response_short Unsupported = omega (arith, text_length (response_line Unsupported) [], lines_length [])

-- an answer at once: `unsupported` is the longest
pub at_once_short : (a : AtOnce) → length (text_of a) ≤ 16
at_once_short (writes r) = response_short r
at_once_short silent = omega arith

-- a body that was read
pub body_short : (t : List ℕ) (q : Reading) → read_first t ≡ q → length (body_read q t) ≤ 8192
body_short t (stanza e n k) h = omega (arith, body_limit t e n k h)
body_short t (refused n) h = omega arith

-- the length of the output buffer
pub room_size : length ample ≡ 8192
unfolding ample
room_size = length-replicate {A = ℕ} 8192 0

-- ---- numbers

due_undue : (w : WordTwo) (n : ℕ) → due w ≡ undue n → ⊥
due_undue w n e = let z : ◌≡◌ {A = ℕ} 0 1 = cc in omega arith

-- what stands behind the stanzas has the number 1 or 3, if any
abbrev pub Faulty : Rest → Type 0
Faulty (unfinished q front) = Unit
Faulty (impossible n text) = (n ≡ 1) ⊎ (n ≡ 3)

at_faulty : (v : State) (front t : List ℕ) (c : Cut) → Faulty c.rest → Faulty (cut_at v front t c).rest
unfolding cut_at
at_faulty v front t c h =
    by_place (λ v. Faulty (cut_at v front t c).rest) h (inl refl)
    (λ v l. subst (λ (x : Cut). Faulty x.rest) (sym (l.at front t c)) (either (λ (x : Cut). Faulty x.rest) (ltb (length front) 8192) c (record { texts = []; rest = impossible 3 (front ++ t) }) h (inr refl))) v

-- .. of a text that was cut
pub cut_faulty : (q : State) (front t : List ℕ) → Faulty (cut q front t).rest
unfolding cut
cut_faulty q front [] = tt
cut_faulty q front (b ∷ t) =
    let v = next q b in
    let f = front ++ (b ∷ []) in
    at_faulty v f t (cut (onward v) (front_onward v f) t) (cut_faulty (onward v) (front_onward v f) t)

module _ (P : ℕ → Type 0) (low : (n : ℕ) → T (closes n) → P n) where
  first_of_lem : (n late : ℕ) → P n → P late → P (first_of n late)
  first_of_lem n late p q = go (eqb n 0)
    where
      go : (f : Bool) → P (pick f late n)
      go true = q
      go false = p

  when_of : (f : Bool) (n : ℕ) → P n → P (two.when f n)
  when_of true n p = p
  when_of false n p = low 0 tt

  by : (f : Bool) (n m : ℕ) → P n → P m → P (pick f n m)
  by true n m p q = p
  by false n m p q = q

  -- a fault of a command by itself is 4 or 5
  fault : {X Y : Type 0} (n : ℕ) → ((n ≡ 4) × X) ⊎ ((n ≡ 5) × Y) → P n
  fault n h = ⊎_elim (λ q. subst P (sym q.0) (low 4 tt)) (λ q. subst P (sym q.0) (low 5 tt)) h

  -- what is decided of a command of phase one
  decided_one_lem : (machine : Machine) (line body : List ℕ) (c : one_command.CommandOne) → SaidOne machine line body c → (t : Tables) (b : one.BuffersOne) (p : List ℕ) → P (one.decided t b c p)
  decided_one_lem machine l y (one_command.recipient m) said t b p =
      by (repeats t.recipients b.recipients p) 20 (pick (fits t.recipients (length p) (length b.recipients)) 0 8) (low 20 tt) (by (fits t.recipients (length p) (length b.recipients)) 0 8 (low 0 tt) (low 8 tt))
  decided_one_lem machine l y (one_command.identity m) said t b p = by (fits t.identities (length p) (length b.identities)) 0 8 (low 0 tt) (low 8 tt)
  decided_one_lem machine l y one_command.key said t b p = by (fits t.keys (length p) (length b.keys)) 0 8 (low 0 tt) (low 8 tt)
  decided_one_lem machine l y (one_command.header j m) said t b p =
      by (one.falls t.headers j) 7 (pick (fits t.headers (length p) (length b.headers)) 0 8) (low 7 tt) (by (fits t.headers (length p) (length b.headers)) 0 8 (low 0 tt) (low 8 tt))
  decided_one_lem machine l y one_command.done said t b p = low 0 tt
  decided_one_lem machine l y one_command.other said t b p = low 0 tt
  decided_one_lem machine l y (one_command.bad m) said t b p = fault m said

  -- .. of one of phase two
  fault_two : (machine : Machine) (line body : List ℕ) (c : CommandTwo) → SaidTwo machine line body c → P (two.fault_of c)
  fault_two machine l y (two_command.ask w) said = low 0 tt
  fault_two machine l y (two_command.stanza f) said = low 0 tt
  fault_two machine l y (two_command.key f) said = low 0 tt
  fault_two machine l y (two_command.error n) said = low 0 tt
  fault_two machine l y two_command.done said = low 0 tt
  fault_two machine l y two_command.other said = low 0 tt
  fault_two machine l y (two_command.bad n) said = fault n said

  decided_two_lem : (t : Tables) (b : two.BuffersTwo) (c : CommandTwo) (n : ℕ) → P (two.fault_of c) → P (two.decided false t b c n)
  unfolding two.decided
  decided_two_lem t b c n p =
      first_of_lem (two.ruled false t c) (two.when (two.is_spaceless t b c n) 8)
      (first_of_lem (two.fault_of c) _ p
      (first_of_lem (two.when (two.is_missing t c) 6) _ (when_of (two.is_missing t c) 6 (low 6 tt))
      (first_of_lem (two.when (two.is_second_key t c) 9) _ (when_of (two.is_second_key t c) 9 (low 9 tt))
      (first_of_lem (two.when (two.is_too_many t c) 10) _ (when_of (two.is_too_many t c) 10 (low 10 tt))
      (first_of_lem (two.when (two.is_clashing t c) 11) _ (when_of (two.is_clashing t c) 11 (low 11 tt)) (low 0 tt))))))
      (when_of (two.is_spaceless t b c n) 8 (low 8 tt))

  by_due_lem : (d : Due) (late : WordTwo → ℕ) → ((n : ℕ) → d ≡ undue n → P n) → ((w : WordTwo) → P (late w)) → (s : Session) (b : Buffers) → P (by_due s b d late)
  by_due_lem (due w) late u q s b = q w
  by_due_lem (undue n) late u q s b = u n refl

  unfit : (s : Session) (b : Buffers) (w : WordTwo) (q : ResponseRead) (body : List ℕ) → P (unfitness s b w q body)
  unfit s b w (response r) body = by (fits_whole w r body) 0 12 (low 0 tt) (low 12 tt)
  unfit s b w nothing body = low 12 tt

  as_read_lem : (q : Reading) (late : ℕ) → ((m : ℕ) → q ≡ refused m → P m) → P late → P (as_read q late)
  as_read_lem (stanza e n k) late f p = p
  as_read_lem (refused n) late f p = f n refl

  module _ (s : Session) (b : Buffers) (t : List ℕ) (readable : (m : ℕ) → read_first t ≡ refused m → P m) where
    receive_number : P (turn_one s.phase) → P (outcome s b (receive t)).number
    receive_number turn =
        subst P (sym (given_receive s b t))
        (first_of_lem (turn_one s.phase) _ turn
        (as_read_lem (read_first t) _ readable (first_of_lem (decided_one s b (line_in t) (body_in t)) 0
        (decided_one_lem s.machine (line_in t) (body_in t) (one.command_in s.machine s.name (line_in t) (body_in t)) (said_one s.machine (line_in t) (body_in t) s.name) s.tables b.first _) (low 0 tt))))

    module _ (out : List ℕ) (long : 8192 ≤ length out) where
      receive_two_number : P (turn_two s.phase) → P (outcome s b (receive_two t out)).number
      receive_two_number turn =
          let c = two_command.command_two s.machine (line_in t) (body_in t) in
          let text = at_once_text s b (line_in t) (body_in t) in
          subst P (sym (given_receive_two s b t out))
          (first_of_lem (turn_two s.phase) _ turn
          (as_read_lem (read_first t) _ readable
          (first_of_lem (decided_two s b false (line_in t) (body_in t)) (shortness text out)
          (decided_two_lem s.tables b.second c _ (fault_two s.machine (line_in t) (body_in t) c (said_two s.machine (line_in t) (body_in t))))
          (subst P (sym (long_enough text out (omega (arith, at_once_short (at_once s.screen c), long)))) (low 0 tt)))))

      respond_number : ((n : ℕ) → due_in s.phase ≡ undue n → P n) → P (outcome s b (respond t out)).number
      respond_number turn =
          subst P (sym (given_respond s b t out))
          (by_due_lem (due_in s.phase) (λ w. as_read (read_first t) (first_of (unfitness s b w (response_of (line_in t)) (body_in t)) (shortness (body_in t) out))) turn
          (λ w. as_read_lem (read_first t) _ readable
          (first_of_lem (unfitness s b w (response_of (line_in t)) (body_in t)) (shortness (body_in t) out) (unfit s b w (response_of (line_in t)) (body_in t))
          (subst P (sym (long_enough (body_in t) out (omega (arith, body_short t (read_first t) refl, long)))) (low 0 tt)))) s b)

    -- the call that takes one stanza, where bytes are read
    pub stanza_number : (e : End) → turn_at e s.phase ≡ reads → P (outcome s b (stanza_call e s.phase t)).number
    stanza_number e h = go e s.phase refl h
      where
        go : (e : End) (p : Phase) → s.phase ≡ p → turn_at e p ≡ reads → P (outcome s b (stanza_call e p t)).number
        go client One q h = absurd (drops_not_reads 14 h)
        go client Two q h = receive_two_number ample (omega (arith, room_size)) (subst (λ p. P (turn_two p)) (sym q) (low 0 tt))
        go client (Awaiting w) q h = absurd (keeps_not_reads h)
        go client Ended q h = absurd (drops_not_reads 13 h)
        go client Closed q h = absurd (drops_not_reads 13 h)
        go plugin One q h = receive_number (subst (λ p. P (turn_one p)) (sym q) (low 0 tt))
        go plugin Two q h = absurd (drops_not_reads _ h)
        go plugin (Awaiting w) q h = respond_number ample (omega (arith, room_size)) (λ n e. absurd (due_undue w n (sym (ap due_in q) ∙ e)))
        go plugin Ended q h = absurd (drops_not_reads 13 h)
        go plugin Closed q h = absurd (drops_not_reads 13 h)

  -- ---- the stanzas of a text

  rest_number : (t : Turn) → ((n : ℕ) → t ≡ drops n → P n) → (s : Session) (b : Buffers) (a : List ℕ) (r : Rest) → Faulty r → P (taken_rest t s b a r).number
  rest_number reads u s b a (unfinished q front) f = low 0 tt
  rest_number reads u s b a (impossible n text) f = ⊎_elim (λ e. subst P (sym e) (low 1 tt)) (λ e. subst P (sym e) (low 3 tt)) f
  rest_number (drops n) u s b a r f = either (λ (x : Taken). P x.number) (eqb (length (bytes_of r)) 0) _ _ (low 0 tt) (u n refl)
  rest_number keeps_back u s b a r f = low 0 tt

  drops_number : P 13 → P 14 → (e : End) (p : Phase) (n : ℕ) → turn_at e p ≡ drops n → P n
  drops_number p13 p14 client One n e = subst P (cc) p14
  drops_number p13 p14 client Two n e = absurd (drops_not_reads n (sym e))
  drops_number p13 p14 client (Awaiting w) n e = absurd (keeps_not_drops n e)
  drops_number p13 p14 client Ended n e = subst P (cc) p13
  drops_number p13 p14 client Closed n e = subst P (cc) p13
  drops_number p13 p14 plugin One n e = absurd (drops_not_reads n (sym e))
  drops_number p13 p14 plugin Two n e = subst P (cc) p14
  drops_number p13 p14 plugin (Awaiting w) n e = absurd (drops_not_reads n (sym e))
  drops_number p13 p14 plugin Ended n e = subst P (cc) p13
  drops_number p13 p14 plugin Closed n e = subst P (cc) p13

  -- a text of which no number is given
  abbrev pub Readable : List ℕ → Type 0
  Readable t = (m : ℕ) → read_first t ≡ refused m → P m

  pub all_number : P 13 → P 14 → (e : End) (s : Session) (b : Buffers) (a : List ℕ) (ts : List (List ℕ)) (r : Rest) → All Readable ts → Faulty r → P (taken_all e s b a ts r).number
  unfolding taken_all All
  all_number p13 p14 e s b a [] r h f = rest_number (turn_at e s.phase) (drops_number p13 p14 e s.phase) s b a r f
  all_number p13 p14 e s b a (t ∷ ts) r h f =
      let o = outcome s b (stanza_call e s.phase t) in
      stanza_cases (λ x. P x.number) e s b a t ts r
      (λ q z. all_number p13 p14 e o.session o.buffers (awaited_behind e o.session.phase t) ts r h.1 f)
      (λ q z. stanza_number s b t h.0 e q) (drops_number p13 p14 e s.phase) (λ q. low 0 tt)
