-- What one end writes is parsed at the other end as what was written, and a text that is received is the text that would be written for it. For every session value.
use Prim.Native.Nat.{ℕ}
use mathlib.Core.Path.{◌≡◌, refl, sym, ap, ap₂, ◌∙◌, subst}
use mathlib.Core.Bool.{true}
use mathlib.Core.List.{List, [], ◌++◌}
use lib.ListN.{length, take, drop}
use lib.Pow.{are_bytes}
use lib.Seq.{take-append_seam}
use Rattle.refusal.specs.Pick.{pick}
use Rattle.refusal.specs.Run.{all, is_graphic}
use Rattle.strict_base64.specs.Code.{encoded}
use Rattle.strict_base64.specs.Lines.{wrapped}
use Rattle.stanza.specs.Arguments.{is_argument, are_arguments, words, before}
use Rattle.stanza.specs.Grammar.{stanza_text}
use Rattle.stanza.specs.Reading.{stanza, read_first}
use Rattle.stanza.specs.Writing.{is_writable}
use Rattle.stanza.proofs.Laws.RoundTrip.{read_written, read_arguments, read_body, written_read}
use Rattle.responses.specs.Responses.{response_line, response_of}
use Rattle.responses.specs.declared.Response.{Response}
use Rattle.responses.specs.declared.Response.TheVariants.{Ok, Yes, No, Fail, Unsupported}
use Rattle.session.specs.declared.words.WordTwo.{WordTwo}
use Rattle.responses.proofs.Laws.Responses.{line_read_lem, read_line}
use Rattle.phase_one.specs.Commands as one_command
use Rattle.phase_one.specs.Commands.{WordOne}
use Rattle.phase_one.specs.PhaseOne as one
use Rattle.conversation.specs.Calls.{send, receive_two, reply, send_two, Outcome, outcome, written_by, line_read, body_read}
use Rattle.conversation.specs.CommandsTwo.{command_two, payload_of, line_sent}
use Rattle.conversation.specs.Kinds.{Buffers}
use Rattle.conversation.specs.Phases.{line_in, body_in, command_in}
use Rattle.conversation.specs.ReceivingTwo.{writes, at_once, text_of}
use Rattle.session.specs.Session.{Session}
use Rattle.conversation.specs.WrittenRead.{ReadsBack, OneReadsBack, TwoReadsBack, ResponseReadsBack, ReceivedAgain}
use Rattle.conversation.proofs.Laws.Accepted.{Written, accepted}

-- ---- a text that reads back

-- whatever can be written
pub reads_back : (line body text : List ℕ) → are_bytes body ≡ true → is_writable line body ≡ true → text ≡ stanza_text line body → ReadsBack line body text
reads_back line body text a w e = subst (ReadsBack line body) (sym e) (record {
  is_text = refl;
  is_stanza = λ rest. read_written line body rest a w;
  same_line = λ rest. ap (λ r. line_read r (stanza_text line body ++ rest)) (read_written line body rest a w) ∙ read_arguments line body rest;
  same_body = λ rest. ap (λ r. body_read r (stanza_text line body ++ rest)) (read_written line body rest a w) ∙ read_body line body rest a;
})

one_back : (line body text : List ℕ) → ReadsBack line body text → OneReadsBack line body text
one_back line body text h = record {
  back = h;
  command = λ machine name rest. ap₂ (one.command_in machine name) (h.same_line rest) (h.same_body rest);
  payload = λ machine name rest. ap₂ (one.payload_in machine name) (h.same_line rest) (h.same_body rest);
}

two_back : (line body text : List ℕ) → ReadsBack line body text → TwoReadsBack line body text
two_back line body text h = record {
  back = h;
  command = λ machine rest. ap₂ (command_two machine) (h.same_line rest) (h.same_body rest);
  payload = λ machine rest. ap₂ (λ l y. payload_of (command_two machine l y) l y) (h.same_line rest) (h.same_body rest);
}

response_back : (r : Response) (body text : List ℕ) → ReadsBack (response_line r) body text → ResponseReadsBack r body text
response_back r body text h = record { back = h; same_response = λ rest. ap response_of (h.same_line rest) ∙ read_line r }

-- ---- what one end writes, the other end parses

-- what was written to the output buffer
pub front : (text out : List ℕ) (o : Outcome) → Written text out o → take o.size o.output ≡ text
front text out o w =
    ap₂ take w.size w.output ∙ ap (λ f. take (length text) (pick f out (text ++ drop (length text) out))) w.fits ∙ take-append_seam text (drop (length text) out)

-- every response can be written without a body
bodiless : (r : Response) → is_writable (response_line r) [] ≡ true
unfolding words before are_arguments is_argument all is_graphic wrapped encoded
bodiless Ok = refl
bodiless Yes = refl
bodiless No = refl
bodiless Fail = refl
bodiless Unsupported = refl

module _ (s : Session) (b : Buffers) where
  -- a command that the client end sends in phase one is parsed by the plugin end as that command
  pub phase_one_written : (word : WordOne) (arguments body out : List ℕ) → are_bytes body ≡ true → (outcome s b (send word arguments body out)).number ≡ 0 →
      OneReadsBack (one_command.line_sent word arguments) body (written_by s b (send word arguments body out))
  phase_one_written word arguments body out a h =
      let w = accepted s b (send word arguments body out) h in one_back _ _ _ (reads_back _ body _ a w.writable (front _ out _ w.written))

  -- a command that the plugin end sends in phase two is parsed by the client end as that command
  pub command_written : (word : WordTwo) (arguments body out : List ℕ) → are_bytes body ≡ true → (outcome s b (send_two word arguments body out)).number ≡ 0 →
      TwoReadsBack (line_sent word arguments) body (written_by s b (send_two word arguments body out))
  command_written word arguments body out a h =
      let w = accepted s b (send_two word arguments body out) h in two_back _ _ _ (reads_back _ body _ a w.writable (front _ out _ w.written))

  -- what the client end writes at once for an accepted command
  pub at_once_text_lem : (text out : List ℕ) → (outcome s b (receive_two text out)).number ≡ 0 → written_by s b (receive_two text out) ≡ text_of (at_once s.screen (command_in s.machine text))
  at_once_text_lem text out h = front _ out _ (accepted s b (receive_two text out) h).written

  -- a response that the client end writes at once is parsed by the plugin end as that response, without a body
  pub at_once_written : (text out : List ℕ) (r : Response) → (outcome s b (receive_two text out)).number ≡ 0 → at_once s.screen (command_in s.machine text) ≡ writes r →
      ResponseReadsBack r [] (written_by s b (receive_two text out))
  at_once_written text out r h e = response_back r [] _ (reads_back _ [] _ refl (bodiless r) (at_once_text_lem text out h ∙ ap text_of e))

  -- a response that the client's host gives is parsed by the plugin end as that response with that body
  pub response_written : (r : Response) (body out : List ℕ) → are_bytes body ≡ true → (outcome s b (reply r body out)).number ≡ 0 → ResponseReadsBack r body (written_by s b (reply r body out))
  response_written r body out a h = let w = accepted s b (reply r body out) h in response_back r body _ (reads_back _ body _ a w.writable (front _ out _ w.written))

-- ---- what is received would be written so again

-- a text that is received is the text that would be written for it, whether it is a command or a response
pub received_again : (t : List ℕ) (e n k : ℕ) → read_first t ≡ stanza e n k → ReceivedAgain t k
received_again t e n k q =
    let w = written_read t e n k q in
    let l : line_in t ≡ line_read (stanza e n k) t = ap (λ r. line_read r t) q in
    let y : body_in t ≡ body_read (stanza e n k) t = ap (λ r. body_read r t) q in
    let again : take k t ≡ stanza_text (line_in t) (body_in t) = sym w.text ∙ sym (ap₂ stanza_text l y) in
    record {
      bytes = ap are_bytes y ∙ w.bytes;
      writable = ap₂ is_writable l y ∙ w.writable;
      again = again;
      as_response = λ r h. again ∙ ap (λ x. stanza_text x (body_in t)) (line_read_lem (line_in t) r h);
    }
