-- What the pass over the lines comes to decides; then the transcript is written.
use mathlib.Core.Path.{◌≡◌, refl, ap, ◌∙◌}
use mathlib.Core.Bool.{true, false}
use lib.ListN.{length, length-take, drop}
use native.Mathlib.Omega.{arith}
use mathlib.Core.List.{◌++◌}
use borrow.Author.Tests.{lt-ltb, le-ltb}
use Rattle.identity_file.specs.Files.{valid_in, transcript, transcript_of, is_over}
use Rattle.identity_file.specs.Lines.{lines}
use Rattle.refusal.specs.Output.{overflows}
use Rattle.identity_file.specs.Steps.{survey_of}
use Rattle.identity_file.proofs.Laws.Survey.{found_file}
use Rattle.identity_file.proofs.reading.read.Goals as goal

pub returns-then-n-gt-MOST_IDENTITIES : goal.returns-then-n-gt-MOST_IDENTITIES
returns-then-n-gt-MOST_IDENTITIES c = let text = c.args.text.now in
    let f = found_file text (survey_of c.survey-t.result) c.survey-t.ensures in
    let o : is_over text ≡ true = lt-ltb 64 (length (valid_in (lines text))) (omega (arith, f.valid, c.if-n-gt-MOST_IDENTITIES.true)) in
    record {
      answer = rw (c.refused.ensures.answer, o);
      keys = rw (c.refused.ensures.keys, o);
      invalid = rw (c.refused.ensures.invalid, o);
      faults = rw o;
      buffer = rw o;
    }

pub transcript_size-size-requires : goal.transcript_size-size-requires
transcript_size-size-requires c = let text = c.args.text.now in
    let f = found_file text (survey_of c.survey-t.result) c.survey-t.ensures in
    let h = c.if-n-gt-MOST_IDENTITIES.false in
    record { few = simp length-take (omega (arith, h)); places = f.places h }

pub returns-then-out-size : goal.returns-then-out-size
returns-then-out-size c = let text = c.args.text.now in
    let f = found_file text (survey_of c.survey-t.result) c.survey-t.ensures in
    let h = c.if-n-gt-MOST_IDENTITIES.false in
    let o : is_over text ≡ false = le-ltb 64 (length (valid_in (lines text))) (omega (arith, f.valid)) in
    let z : c.transcript_size-size.result ≡ length (transcript_of text) = c.transcript_size-size.ensures ∙ ap (λ x. length (transcript x)) (f.texts h) in
    let v : overflows (transcript_of text) c.args.out.now ≡ true = lt-ltb (length c.args.out.now) (length (transcript_of text)) (omega (arith, z, c.if-out-size.true)) in
    record {
      answer = rw (c.refused-then-out-size.ensures.answer, o, v);
      keys = rw (c.refused-then-out-size.ensures.keys, o, v);
      invalid = rw (c.refused-then-out-size.ensures.invalid, o, v);
      faults = rw (o, v);
      buffer = rw (o, v);
    }

pub put_transcript-requires : goal.put_transcript-requires
put_transcript-requires c = let text = c.args.text.now in
    let f = found_file text (survey_of c.survey-t.result) c.survey-t.ensures in
    let h = c.if-n-gt-MOST_IDENTITIES.false in
    record {
      places = f.places h;
      places_in_bounds = omega (arith, c.transcript_size-size.ensures, c.if-out-size.false);
    }

pub returns : goal.returns
returns c = let text = c.args.text.now in
    let f = found_file text (survey_of c.survey-t.result) c.survey-t.ensures in
    let h = c.if-n-gt-MOST_IDENTITIES.false in
    let o : is_over text ≡ false = le-ltb 64 (length (valid_in (lines text))) (omega (arith, f.valid)) in
    let z : c.transcript_size-size.result ≡ length (transcript_of text) = c.transcript_size-size.ensures ∙ ap (λ x. length (transcript x)) (f.texts h) in
    let v : overflows (transcript_of text) c.args.out.now ≡ false = le-ltb (length c.args.out.now) (length (transcript_of text)) (omega (arith, z, c.if-out-size.false)) in
    record {
      answer = rw (o, v, z) refl;
      keys = rw (o, v) f.keys;
      invalid = rw (o, v) f.invalid;
      faults = rw (o, v) f.faults;
      buffer = rw (o, v) (c.put_transcript.ensures ∙ ap (λ x. transcript x ++ drop (length (transcript x)) c.args.out.now) (f.texts h));
    }
