use Rattle.std.proofs.Common.{◌≡◌, ◌∙◌, [], ◌∷◌, ◌++◌, Bor, List, ℕ, Err, ap, true, false, arith}
use Rattle.std.specs.Option.{option_map}
use Rattle.unit_print.specs.Fitting.{is_word}
use Rattle.save_point.proofs.ReadStates.{handed, no_name, no_words, puts_state}
use Rattle.text_tokens.specs.declared.fault.Unread.TheVariants as unread
use Rattle.save_point.proofs.reading.put_state.Goals as goal

pub returns-then-not-is_word-clause-none : goal.returns-then-not-is_word-clause-none
returns-then-not-is_word-clause-none c = λ _.
    let no : is_word c.cut_part.result.0.now ≡ false = grind (arith, c.is_word.ensures, c.if-not-is_word.true) in
    no_name c.args.bytes.now c.cut_part.result.0.now (option_map (λ (b : Bor (List ℕ)). b.now) c.cut_part.result.1) c.cut_part.ensures.first
    c.cut_part.ensures.others no

pub returns-in_err-count-clause-none : goal.returns-in_err-count-clause-none
returns-in_err-count-clause-none c = λ is.
    no_words c.args.bytes.now c.cut_part.result.0.now (option_map (λ (b : Bor (List ℕ)). b.now) c.cut_part.result.1) c.cut_part.ensures.first
    c.cut_part.ensures.others
    (c.in_err-count.ensures.none (ap Err (handed c.from_residual.result c.in_err-count.field-0.0 unread.NoForm c.from_residual.ensures.1 is)))

pub returns-clause-put : goal.returns-clause-put
returns-clause-put c =
    let yes : is_word c.cut_part.result.0.now ≡ true = grind (arith, c.is_word.ensures, c.if-not-is_word.false) in
    puts_state c.args.bytes.now c.cut_part.result.0.now (option_map (λ (b : Bor (List ℕ)). b.now) c.cut_part.result.1) c.args.names.now c.push.new.self
    c.args.counts.now c.push-2.new.self c.args.words.now c.put_words.new.words c.in_ok-count.count c.cut_part.ensures.first c.cut_part.ensures.others yes
    c.in_ok-count.ensures.put (c.in_ok-push.ensures.ok ∙ ap (λ name. c.args.names.now ++ (name ∷ [])) c.in_ok-from_slice.ensures) c.in_ok-push-2.ensures.ok
