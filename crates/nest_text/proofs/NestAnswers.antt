-- The results for the parts of a nested text give the result for the text.
use Rattle.std.proofs.Common.{◌≡◌, ℕ, ◌+◌, ◌-◌, ◌≤◌, List, inl, inr, Some, Result, Ok, Err, sym, subst, ap, ◌∙◌}
use Rattle.std.specs.Prelude.{slice_get}
use Rattle.std.specs.Result.{IsErrAnd}
use Rattle.unit_tree.specs.Lines.{size_of}
use Rattle.model_rules.specs.Limits.{text_limit}
use Rattle.unit_tree.specs.Texts.{IsRefused, Reads}
use Rattle.unit_tree.specs.declared.system.System.{System}
use Rattle.nest_text.specs.NestLines.{SourceLine}
use Rattle.nest_text.specs.Nests.{GroupLines, IsNestOf, groups_of, parted}
use Rattle.nest_text.specs.Reading.{AnswersNest, CutsText, GroupAnswers, GroupsAnswer, InsideAnswers, IsGathered, MainAnswers, NextGroupIs, OfLines}
use Rattle.nest_text.specs.declared.fault.NestFault.{NestFault}
use Rattle.nest_text.specs.declared.fault.NestFault.TheVariants as fault
use Rattle.nest_text.specs.declared.groups.Body.{Body}
use Rattle.nest_text.specs.declared.nest.Group.{Group}
use Rattle.nest_text.proofs.GroupWalks.{groups_read}
use Rattle.nest_text.proofs.TextCuts.{cut_of}

-- what has to be proved where a part failed
pub handed_on : {X E : Type 0} (result : Result X E) (why : E) (Owes : Result X E → Type 0) → IsErrAnd result (λ found. found ≡ why) → Owes (Err why)
    → Owes result
handed_on (Ok x) why Owes is owed = absurd is
handed_on (Err found) why Owes is owed = subst (λ one. Owes (Err one)) (sym is) owed

pub group_failed_inside : (lines : GroupLines) (body : Body) (why : NestFault) → IsGathered body lines
    → InsideAnswers body.text.items body.numbers (Err why) → GroupAnswers lines (Err why)
group_failed_inside lines body (fault.Line number rule) ready refused = record {
  line = refused.0;
  refused = subst (λ text. IsRefused text refused.0 rule) ready.text refused.1;
  comes_from = subst (λ numbers. slice_get numbers (refused.0 - 1) ≡ Some number) ready.numbers refused.2;
}
group_failed_inside lines body fault.NoMemory ready refused = tt

pub next_failed : (name : List ℕ) (head : ℕ) (lines : List SourceLine) (why : NestFault)
    → GroupAnswers (record { name = name; head = head; body = (parted lines).prefix }) (Err why) → NextGroupIs name head lines (Err why)
next_failed name head lines (fault.Line number rule) refused = refused
next_failed name head lines fault.NoMemory refused = tt

pub groups_failed : (text prefix : List ℕ) (number : ℕ) (rest : List ℕ) (why : NestFault) → size_of text ≤ text_limit → CutsText text prefix number rest
    → OfLines 1 prefix (λ lines. GroupsAnswer (groups_of lines) (Err why)) → AnswersNest text (Err why)
groups_failed text prefix number rest (fault.Line line rule) short cuts refused =
    inr (short, inr (record { cut = cut_of text prefix number rest cuts; refused = inl (refused cuts.has_main.before cuts.has_main.are_before) }))
groups_failed text prefix number rest fault.NoMemory short cuts refused = tt

pub main_failed : (text prefix : List ℕ) (number : ℕ) (rest : List ℕ) (groups : List Group) (heads : List ℕ) (why : NestFault) → size_of text ≤ text_limit
    → CutsText text prefix number rest → OfLines 1 prefix (λ lines. GroupsAnswer (groups_of lines) (Ok (groups, heads))) → MainAnswers rest number (Err why)
    → AnswersNest text (Err why)
main_failed text prefix number rest groups heads (fault.Line line rule) short cuts read refused =
    let made = read cuts.has_main.before cuts.has_main.are_before in
    inr (
      short,
      inr (record {
        cut = cut_of text prefix number rest cuts;
        refused = inr (
          groups_read (groups_of cuts.has_main.before) groups made.0,
          record { line = refused.line; refused = refused.refused; counted = refused.counted ∙ ap (λ main. main + refused.line) (sym cuts.has_main.is_number) },
        );
      }),
    )
main_failed text prefix number rest groups heads fault.NoMemory short cuts read refused = tt

pub nest_is_read : (text prefix : List ℕ) (number : ℕ) (rest : List ℕ) (groups : List Group) (heads : List ℕ) (main : System) → size_of text ≤ text_limit
    → CutsText text prefix number rest → OfLines 1 prefix (λ lines. GroupsAnswer (groups_of lines) (Ok (groups, heads))) → Reads rest main
    → IsNestOf text (record { main = main; groups = groups; lines = heads; main_line = number })
nest_is_read text prefix number rest groups heads main short cuts read reads =
    let made = read cuts.has_main.before cuts.has_main.are_before in
    record {
      short = short;
      cut = cut_of text prefix number rest cuts;
      groups = made.0;
      lines = made.1;
      main = reads;
      main_line = sym cuts.has_main.is_number;
    }
