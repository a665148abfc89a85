-- Each system is judged once.
use Rattle.std.proofs.Common.{◌≡◌, ℕ, List, [], ◌∷◌, ◌++◌, Option, Some, None, refl, ap, ◌∙◌}
use Rattle.std.specs.Prelude.{◌↔◌}
use Rattle.unit_tree.specs.WellFormed.{Rule, Refusal, BreaksNone, IsRefusal, lines_breaking, or_later, refusal_by, rules}
use Rattle.unit_tree.specs.declared.system.System.{System}

pub unrefused : (judged : Rule) (later : Option Refusal) (lines : List ℕ) → or_later judged later lines ≡ None → (lines ≡ []) × (later ≡ None)
unrefused judged later [] none = (refl, none)
unrefused judged later (line ∷ lines) none = absurd (cc)

pub none_broken : (judged : List Rule) (system : System) → BreaksNone judged system → refusal_by judged system ≡ None
none_broken [] system kept = refl
none_broken (first ∷ later) system kept =
    let rest : refusal_by later system ≡ None = none_broken later system kept.1 in
    rw (kept.0) rest

pub none_refused : (judged : List Rule) (system : System) → refusal_by judged system ≡ None → BreaksNone judged system
none_refused [] system none = _
none_refused (first ∷ later) system none =
    let both = unrefused first (refusal_by later system) (lines_breaking first system) none in
    (both.0, none_refused later system both.1)

pub well_formed : (system : System) → BreaksNone rules system ↔ (refusal_by rules system ≡ None)
well_formed system = (none_broken rules system, none_refused rules system)

pub refused_here : (first : Rule) (later : List Rule) (system : System) (refusal : Refusal) (lines : List ℕ)
    → ((refusal_by later system ≡ Some refusal) → IsRefusal later system refusal) → lines_breaking first system ≡ lines
    → or_later first (refusal_by later system) lines ≡ Some refusal → IsRefusal (first ∷ later) system refusal
refused_here first later system refusal [] by_later kept is =
    let rest = by_later is in
    record {
      kept = first ∷ rest.kept;
      broken = rest.broken;
      later = rest.later;
      others = rest.others;
      cut = ap (λ all. first ∷ all) rest.cut;
      none_before = (kept, rest.none_before);
      by = rest.by;
      lines = rest.lines;
    }
refused_here first later system refusal (line ∷ lines) by_later broken is =
    let here : record { by = first.number; at = line } ≡ refusal = cc in
    record {
      kept = [];
      broken = first;
      later = later;
      others = lines;
      cut = refl;
      none_before = _;
      by = ap (λ r. r.by) here;
      lines = rw (← here) broken;
    }

pub refused_by : (judged : List Rule) (system : System) (refusal : Refusal) → refusal_by judged system ≡ Some refusal → IsRefusal judged system refusal
refused_by [] system refusal is = absurd (cc)
refused_by (first ∷ later) system refusal is =
    refused_here first later system refusal (lines_breaking first system) (refused_by later system refusal) refl is

pub refused : (system : System) (refusal : Refusal) → refusal_by rules system ≡ Some refusal → IsRefusal rules system refusal
refused system refusal is = refused_by rules system refusal is

pub only_by : (kept : List Rule) (broken : Rule) (later : List Rule) (system : System) (line : ℕ) (others : List ℕ) → BreaksNone kept system
    → lines_breaking broken system ≡ line ∷ others → refusal_by (kept ++ (broken ∷ later)) system ≡ Some (record { by = broken.number; at = line })
only_by [] broken later system line others none lines = rw lines refl
only_by (first ∷ kept) broken later system line others none lines = rw (none.0) (only_by kept broken later system line others none.1 lines)

pub only : (system : System) (refusal : Refusal) → IsRefusal rules system refusal → refusal_by rules system ≡ Some refusal
only system refusal is =
    let found : refusal_by (is.kept ++ (is.broken ∷ is.later)) system ≡ Some (record { by = is.broken.number; at = refusal.at }) =
    only_by is.kept is.broken is.later system refusal.at is.others is.none_before is.lines in
    ap (λ all. refusal_by all system) is.cut ∙ found ∙ ap (λ n. Some (record { by = n; at = refusal.at })) is.by
