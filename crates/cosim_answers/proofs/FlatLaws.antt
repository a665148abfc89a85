-- What holds of the answers of `flatten`, and the result of the command, as an answer for its text.
use Rattle.std.specs.Prelude.{Vec}
use Rattle.std.specs.declared.alloc.Global.{Global}
use Rattle.std.proofs.Common.{◌≡◌, ◌⊎◌, ◌<◌, ◌≤◌, ℕ, List, length, Ok, Err, Some, refl, sym, ap, subst, ◌∙◌, inl, inr, arith}
use Rattle.std.proofs.lemmas.Option.{same_Some}
use Rattle.nest_text.specs.Nests.{IsNestOf, RefusesNest}
use Rattle.nest_text.specs.declared.nest.Nest.{Nest}
use Rattle.nest_text.proofs.NestsThere.{nested_once}
use Rattle.nest_names.specs.Flattening.{flat_of}
use Rattle.sub_flat.specs.NestRules.{BreaksNest, IsRefusedNest}
use Rattle.sub_flat.proofs.JudgedOnce.{judged_once as nest_judged}
use Rattle.text_accept.specs.Accepting.{IsAcceptedAs, IsRefusedAt}
use Rattle.text_accept.proofs.Acceptance.{judged_once}
use Rattle.text_tokens.proofs.LineLemmas.{length_le_size_of}
use Rattle.unit_tree.specs.Lines.{size_of}
use Rattle.model_rules.specs.Limits.{text_limit}
use Rattle.unit_tree.specs.declared.system.System.{System}
use Rattle.command_line.specs.declared.commands.Command.TheVariants.{Flatten}
use Rattle.cosim_call.specs.Answers.{Answer, IsEndOfWork, piece_answer}
use Rattle.cosim_call.specs.Coming.{Makes}
use Rattle.cosim_call.specs.declared.coming.Stopped.{Stopped}
use Rattle.cosim_call.specs.declared.coming.Stopped.TheVariants as stopped
use Rattle.cosim_answers.specs.Accepted.{printed_text}
use Rattle.cosim_answers.specs.Answer.{Answers}
use Rattle.cosim_answers.specs.FlatAnswers.{AnswersFlatten, FlattenRefuses, FlattensTo}
use Rattle.cosim_answers.specs.Serving.{FindsFlat, FindsNest, IsUnaccepted}
use Rattle.cosim_answers.proofs.Lawful.{HasNoOther, IsLawful, agree_as_same}
use Rattle.cosim_answers.proofs.MakingLaws.{made}

-- ---- Each text is refused once, or has one answer

abbrev Judged : List ℕ → Type 0
Judged text = ((line : ℕ) × (rule : ℕ) × FlattenRefuses text line rule) ⊎ ((answer : Answer) × AnswersFlatten text answer)

module _ (text : List ℕ) where
  by_flat : (flat : List ℕ) → FlattensTo text flat
      → ((system : System) × (lines : List ℕ) × IsAcceptedAs flat system lines) ⊎ ((line : ℕ) × (rule : ℕ) × IsRefusedAt flat line rule) → Judged text
  by_flat flat flattens (inl (system, lines, accepted)) =
      inr (piece_answer flat, record { flat = flat; flattens = flattens; system = system; lines = lines; accepted = accepted; is = refl })
  by_flat flat flattens (inr (line, rule, refused)) = inl (line, rule, inr (inr (record { flat = flat; flattens = flattens; refused = refused })))

  by_groups : (nest : Nest) → IsNestOf text nest
      → ((line rule : ℕ) → BreaksNest nest line rule → ⊥) ⊎ ((line : ℕ) × (rule : ℕ) × IsRefusedNest nest line rule) → Judged text
  by_groups nest says (inr (line, rule, refused)) = inl (line, rule, inr (inl (record { nest = nest; says = says; refused = refused })))
  by_groups nest says (inl kept) =
      let flat = printed_text (flat_of nest) in
      by_flat flat (record { nest = nest; says = says; kept = kept; is = refl }) (judged_once flat).judged

  by_nest : ((nest : Nest) × IsNestOf text nest) ⊎ ((line : ℕ) × (rule : ℕ) × RefusesNest text line rule) → Judged text
  by_nest (inl (nest, says)) = by_groups nest says (nest_judged nest).judged
  by_nest (inr (line, rule, refused)) = inl (line, rule, inl refused)

  one_nest : (one other : Nest) → IsNestOf text one → IsNestOf text other → one ≡ other
  one_nest = (nested_once text).one_nest

  one_flat : (one other : List ℕ) → FlattensTo text one → FlattensTo text other → one ≡ other
  one_flat one other a b = a.is ∙ ap (λ nest. printed_text (flat_of nest)) (one_nest a.nest b.nest a.says b.says) ∙ sym b.is

  never_kept : {A : Type 0} (one other : Nest) (line rule : ℕ) → IsNestOf text one → IsNestOf text other
      → ((line rule : ℕ) → BreaksNest one line rule → ⊥) → IsRefusedNest other line rule → A
  never_kept one other line rule a b kept refused =
      absurd (kept line rule (subst (λ nest. BreaksNest nest line rule) (one_nest other one b a) refused.breaks))

  never_refused : {A : Type 0} (one other : List ℕ) (system : System) (lines : List ℕ) (line rule : ℕ) → FlattensTo text one → FlattensTo text other
      → IsAcceptedAs one system lines → IsRefusedAt other line rule → A
  never_refused one other system lines line rule a b accepted refused =
      absurd ((judged_once one).not_both system lines line rule accepted (subst (λ flat. IsRefusedAt flat line rule) (one_flat other one b a) refused))

  once : (line rule other third : ℕ) → FlattenRefuses text line rule → FlattenRefuses text other third → (line ≡ other) × (rule ≡ third)
  once line rule other third (inl a) (inl b) = (nested_once text).one_refusal line rule other third a b
  once line rule other third (inl a) (inr (inl b)) = absurd ((nested_once text).not_both b.nest line rule b.says a)
  once line rule other third (inl a) (inr (inr b)) = absurd ((nested_once text).not_both b.flattens.nest line rule b.flattens.says a)
  once line rule other third (inr (inl a)) (inl b) = absurd ((nested_once text).not_both a.nest other third a.says b)
  once line rule other third (inr (inr a)) (inl b) = absurd ((nested_once text).not_both a.flattens.nest other third a.flattens.says b)
  once line rule other third (inr (inl a)) (inr (inl b)) =
      (nest_judged b.nest).one_refusal line rule other third (subst (λ nest. IsRefusedNest nest line rule) (one_nest a.nest b.nest a.says b.says) a.refused) b.refused
  once line rule other third (inr (inl a)) (inr (inr b)) =
      never_kept b.flattens.nest a.nest line rule b.flattens.says a.says b.flattens.kept a.refused
  once line rule other third (inr (inr a)) (inr (inl b)) =
      never_kept a.flattens.nest b.nest other third a.flattens.says b.says a.flattens.kept b.refused
  once line rule other third (inr (inr a)) (inr (inr b)) =
      (judged_once b.flat).one_refusal line rule other third
      (subst (λ flat. IsRefusedAt flat line rule) (one_flat a.flat b.flat a.flattens b.flattens) a.refused) b.refused

  never_both : (line rule : ℕ) (answer : Answer) → FlattenRefuses text line rule → AnswersFlatten text answer → ⊥
  never_both line rule answer (inl a) answers = (nested_once text).not_both answers.flattens.nest line rule answers.flattens.says a
  never_both line rule answer (inr (inl a)) answers =
      never_kept answers.flattens.nest a.nest line rule answers.flattens.says a.says answers.flattens.kept a.refused
  never_both line rule answer (inr (inr a)) answers =
      never_refused answers.flat a.flat answers.system answers.lines line rule answers.flattens a.flattens answers.accepted a.refused

  answers_once : (one other : Answer) → AnswersFlatten text one → AnswersFlatten text other → one ≡ other
  answers_once one other a b = a.is ∙ ap piece_answer (one_flat a.flat b.flat a.flattens b.flattens) ∙ sym b.is

pub flat_once : HasNoOther AnswersFlatten
flat_once text one other a b = answers_once text one other a b

pub flatten_lawful : IsLawful FlattenRefuses AnswersFlatten
flatten_lawful = record {
  judged = λ text. by_nest text (nested_once text).answered;
  one_refusal = λ text line by other rule. once text line by other rule;
  not_both = λ text line rule answer. never_both text line rule answer;
  agree = λ text one other a b. agree_as_same one other (answers_once text one other a b);
  ends = λ text answer answers. subst (λ (a : Answer). IsEndOfWork a.status) (sym answers.is) tt;
}

-- An input that is too long breaks the rule of its length.
pub too_long_nest : (limit : ℕ) (text : List ℕ) → Some text_limit ≡ Some limit → limit < length text → RefusesNest text 1 2
too_long_nest limit text is long = inl (more (same_Some text_limit limit is) (length_le_size_of text) long, refl, refl)
  where
    more : text_limit ≡ limit → length text ≤ size_of text → limit < length text → text_limit < size_of text
    more is size long = omega (arith, is, size, long)

-- ---- The result of the command

pub nest_refused : (text : List ℕ) (why : Stopped) → FindsNest text (Err why) → Makes (Answers Flatten text) (Err why)
nest_refused text (stopped.Refused line rule) refused = inl (record { line = line; rule = rule; refused = inl refused; is = refl })
nest_refused text stopped.NoMemory refused = tt
nest_refused text stopped.ReadFault refused = absurd refused
nest_refused text stopped.WriteFault refused = absurd refused

pub groups_refused : (text : List ℕ) (nest : Nest) (why : Stopped) → IsNestOf text nest → FindsFlat nest (Err why) → Makes (Answers Flatten text) (Err why)
groups_refused text nest (stopped.Refused line rule) says refused =
    inl (record { line = line; rule = rule; refused = inr (inl (record { nest = nest; says = says; refused = refused })); is = refl })
groups_refused text nest stopped.NoMemory says refused = tt
groups_refused text nest stopped.ReadFault says refused = absurd refused
groups_refused text nest stopped.WriteFault says refused = absurd refused

module _ (text : List ℕ) (nest : Nest) (says : IsNestOf text nest) (flat : Vec ℕ Global) (found : FindsFlat nest (Ok flat)) where
  flattens : FlattensTo text flat.items
  flattens = record { nest = nest; says = says; kept = found.1; is = found.0 }

  pub flat_refused : (why : Stopped) → IsUnaccepted flat.items why → Makes (Answers Flatten text) (Err why)
  flat_refused (stopped.Refused line rule) refused =
      inl (record {
        line = line;
        rule = rule;
        refused = inr (inr (record { flat = flat.items; flattens = flattens; refused = refused }));
        is = refl;
      })
  flat_refused stopped.NoMemory refused = tt
  flat_refused stopped.ReadFault refused = absurd refused
  flat_refused stopped.WriteFault refused = absurd refused

  pub flat_made : (system : System) (lines : List ℕ) → IsAcceptedAs flat.items system lines → Makes (Answers Flatten text) (Ok flat)
  flat_made system lines accepted =
      made (Answers Flatten text) flat.items flat refl
      (inr (record { flat = flat.items; flattens = flattens; system = system; lines = lines; accepted = accepted; is = refl }))
