-- Each text is accepted as one system, or refused at one line by one rule.
use Rattle.std.proofs.Common.{◌≡◌, ℕ, suc, ◌+◌, ◌-◌, ◌<◌, ◌≤◌, ◌⊎◌, inl, inr, Bool, true, false, List, [], ◌∷◌, length, Option, Some, None, refl}
use Rattle.std.proofs.Common.{ap, sym, subst, ◌∙◌, arith}
use Rattle.std.specs.Prelude.{⊤}
use Rattle.std.specs.List.{filter_map, find, enumerate_from}
use Rattle.std.specs.Option.{option_map}
use Rattle.std.proofs.lemmas.List.{length-map}
use Rattle.std.proofs.lemmas.Option.{same_Some}
use Rattle.list_laws.proofs.Members.{at_place}
use Rattle.language_laws.specs.Language.{CyclesAreJudgedOnce}
use Rattle.unit_tree.specs.Canonical.{canonical_forms}
use Rattle.unit_tree.specs.Names.{unit_at}
use Rattle.unit_tree.specs.Orders.{HasNoCycle, IsFirstWithoutOrder, declares_output, line_of_output}
use Rattle.unit_tree.specs.Parts.{Part}
use Rattle.unit_tree.specs.Sites.{Site, sites_of}
use Rattle.unit_tree.specs.SourceLines.{ReadsFrom, numbers_of, in_canonical_order}
use Rattle.unit_tree.specs.Lines.{source_lines}
use Rattle.unit_tree.specs.Texts.{Reads, IsRefused}
use Rattle.unit_tree.specs.WellFormed.{Rule, Refusal, IsWellFormed, refusal_of, refusal_by, or_later, lines_breaking, number_where, rules}
use Rattle.unit_tree.specs.declared.system.PortName.{PortName}
use Rattle.unit_tree.specs.declared.system.System.{System}
use Rattle.language_laws.proofs.JudgementLaws.{well_formed}
use Rattle.language_laws.proofs.LineLaws.{has_line}
use Rattle.language_laws.proofs.RefusalLaws.{refused_once}
use Rattle.language_laws.proofs.SiteLaws.{sites_are}
use Rattle.text_laws.proofs.SourceCounts.{one_for_one}
use Rattle.unit_text.specs.Laws.{IsAnsweredOnce}
use Rattle.unit_text.proofs.AnswerLaws.{answered_once}
use Rattle.unit_text.proofs.KnownForms.{known}
use Rattle.wire_graph.proofs.CycleLaws.{cycles_are_judged_once as judged_cycles}
use Rattle.text_accept.specs.Laws.{IsAcceptedOrRefused, EveryTextIsJudgedOnce}
use Rattle.text_accept.specs.Accepting.{IsAcceptedAs, source_line, IsSystemRefusedAt, SaysRefused, IsRefusedAt}
use Rattle.text_accept.proofs.SourceCycles.{first_stands}

-- ---- One system, and one list of lines

once : (text : List ℕ) → IsAnsweredOnce text
once text = answered_once known text

one_source : (text : List ℕ) (one other : System) (ones others : List ℕ) → ReadsFrom text one ones → ReadsFrom text other others
    → (one ≡ other) × (ones ≡ others)
one_source text one other ones others a b =
    let same_parts : a.reads.parts ≡ b.reads.parts =
    ((once text).one_reading one.version other.version a.reads.parts b.reads.parts a.reads.lines b.reads.lines).1 in (
      (once text).one_system one other a.reads b.reads,
      a.are_lines ∙ ap (λ (parts : List Part). in_canonical_order parts (numbers_of (source_lines text))) same_parts ∙ sym b.are_lines,
    )

-- ---- Each canonical line has its source line

-- there is one source line for each canonical line
pub sites_count : (system : System) → length (sites_of system) ≡ length (canonical_forms system)
sites_count system = sym (length-map (sites_of system) (λ site. site.line)) ∙ ap length (sites_are system)

pub as_many : (text : List ℕ) (system : System) (lines : List ℕ) → ReadsFrom text system lines → length (sites_of system) ≡ length lines
as_many text system lines from = sites_count system ∙ sym (one_for_one text system lines from)

pub has_source : (text : List ℕ) (system : System) (lines : List ℕ) (item : ℕ) → ReadsFrom text system lines → 1 ≤ item → item ≤ length (sites_of system)
    → (line : ℕ) × (source_line lines item ≡ Some line)
has_source text system lines item from first last =
    let same = as_many text system lines from in
    at_place lines (item - 1) (omega (arith, first, last, same))

-- A line that breaks a rule is one of the canonical lines.
Within : ℕ → List Site → List ℕ → Type 0
Within from all [] = ⊤
Within from all (at ∷ others) = (from ≤ at) × (at < from + length all)

within_later : (from : ℕ) (site : Site) (all : List Site) (found : List ℕ) → Within (from + 1) all found → Within from (site ∷ all) found
unfolding Within
within_later from site all [] is = tt
within_later from site all (at ∷ others) is = (let low = is.0 in omega (arith, low), let high = is.1 in omega (arith, high))

breaking_by : (breaks : Site → Bool) (from : ℕ) (site : Site) (all : List Site) (told : Bool) → breaks site ≡ told
    → Within (from + 1) all (filter_map (number_where breaks) (enumerate_from (from + 1) all))
    → Within from (site ∷ all) (filter_map (number_where breaks) (enumerate_from from (site ∷ all)))
unfolding Within
breaking_by breaks from site all true is later =
    rw is (let low : from ≤ from = omega arith in let high : from < from + suc (length all) = omega arith in (low, high))
breaking_by breaks from site all false is later =
    rw is (within_later from site all (filter_map (number_where breaks) (enumerate_from (from + 1) all)) later)

breaking_within : (breaks : Site → Bool) (from : ℕ) (all : List Site) → Within from all (filter_map (number_where breaks) (enumerate_from from all))
unfolding Within
breaking_within breaks from [] = tt
breaking_within breaks from (site ∷ all) = breaking_by breaks from site all (breaks site) refl (breaking_within breaks (from + 1) all)

AreLines : System → Refusal → Type 0
AreLines system refusal = (1 ≤ refusal.at) × (refusal.at ≤ length (sites_of system))

refusal_by_found : (rule : Rule) (system : System) (refusal : Refusal) (later : Option Refusal) (found : List ℕ) → Within 1 (sites_of system) found
    → (later ≡ Some refusal → AreLines system refusal) → or_later rule later found ≡ Some refusal → AreLines system refusal
unfolding Within AreLines
refusal_by_found rule system refusal later [] within behind is = behind is
refusal_by_found rule system refusal later (at ∷ others) within behind is =
    let same : at ≡ refusal.at = ap (λ (one : Refusal). one.at) (same_Some (record { by = rule.number; at = at }) refusal is) in
    let low = within.0 in
    let high = within.1 in
    (omega (arith, same, low), omega (arith, same, high))

refusal_within : (judged : List Rule) (system : System) (refusal : Refusal) → refusal_by judged system ≡ Some refusal → AreLines system refusal
refusal_within [] system refusal is = absurd (cc)
refusal_within (rule ∷ judged) system refusal is =
    refusal_by_found rule system refusal (refusal_by judged system) (lines_breaking rule system) (breaking_within (rule.breaks system) 1 (sites_of system))
    (refusal_within judged system refusal) is

pub refusal_lines : (system : System) (refusal : Refusal) → refusal_of system ≡ Some refusal → (1 ≤ refusal.at) × (refusal.at ≤ length (sites_of system))
unfolding AreLines
refusal_lines system refusal is = refusal_within rules system refusal is

-- The number of a numbered site.
abbrev number_at : ℕ × Site → ℕ
number_at at = at.0

found_by : (test : ℕ × Site → Bool) (from : ℕ) (site : Site) (all : List Site) (item : ℕ) (told : Bool) → test (from, site) ≡ told
    → (option_map number_at (find test (enumerate_from (from + 1) all)) ≡ Some item → (from + 1 ≤ item) × (item < from + 1 + length all))
    → option_map number_at (find test (enumerate_from from (site ∷ all))) ≡ Some item → (from ≤ item) × (item < from + suc (length all))
found_by test from site all item true holds later is =
    let here : find test (enumerate_from from (site ∷ all)) ≡ Some (from, site) = rw holds refl in
    let same : from ≡ item = same_Some from item (sym (ap (option_map number_at) here) ∙ is) in
    (omega (arith, same), omega (arith, same))
found_by test from site all item false fails later is =
    let there : find test (enumerate_from from (site ∷ all)) ≡ find test (enumerate_from (from + 1) all) = rw fails refl in
    let within = later (sym (ap (option_map number_at) there) ∙ is) in
    let low = within.0 in
    let high = within.1 in
    (omega (arith, low), omega (arith, high))

found_within : (test : ℕ × Site → Bool) (from : ℕ) (all : List Site) (item : ℕ) → option_map number_at (find test (enumerate_from from all)) ≡ Some item
    → (from ≤ item) × (item < from + length all)
found_within test from [] item is = absurd (cc)
found_within test from (site ∷ all) item is = found_by test from site all item (test (from, site)) refl (found_within test (from + 1) all item) is

-- ---- Each text is judged

pub broken_is_refused : (text : List ℕ) (system : System) (lines : List ℕ) (refusal : Refusal) → ReadsFrom text system lines
    → refusal_of system ≡ Some refusal → (line : ℕ) × IsRefusedAt text line refusal.by
broken_is_refused text system lines refusal from found =
    let within = refusal_lines system refusal found in
    let source = has_source text system lines refusal.at from within.0 within.1 in (
      source.0,
      inr (record {
        system = system;
        lines = lines;
        reads = from;
        refused = inl (record { refusal = refusal; found = found; at = source.1; by = refl });
      }),
    )

pub cycle_is_refused : (text : List ℕ) (system : System) (lines : List ℕ) (port : PortName) → ReadsFrom text system lines → IsWellFormed system
    → IsFirstWithoutOrder system port → (line : ℕ) × IsRefusedAt text line 15
cycle_is_refused text system lines port from well first =
    let declared = has_line system port well (first_stands system port first) in
    let within = found_within (λ at. declares_output port.port (unit_at system port) at.1.scope at.1.line) 1 (sites_of system) declared.0 declared.1 in
    let low = within.0 in
    let high = within.1 in
    let source = has_source text system lines declared.0 from low (omega (arith, high)) in (
      source.0,
      inr (record {
        system = system;
        lines = lines;
        reads = from;
        refused = inr (record {
          well_formed = well;
          port = port;
          first = first;
          item = declared.0;
          declared = declared.1;
          at = source.1;
          by = refl;
        });
      }),
    )

judged_by_order : CyclesAreJudgedOnce → (text : List ℕ) (system : System) (lines : List ℕ) → ReadsFrom text system lines → IsWellFormed system
    → IsAcceptedOrRefused text
judged_by_order cycles text system lines from well = by_order (cycles.judged system)
  where
    by_order : HasNoCycle system ⊎ ((port : PortName) × IsFirstWithoutOrder system port) → IsAcceptedOrRefused text
    by_order (inl ordered) = inl (system, lines, record { reads = from; well_formed = well; ordered = ordered })
    by_order (inr (port, first)) = let refused = cycle_is_refused text system lines port from well first in inr (refused.0, 15, refused.1)

judged_by_rules : CyclesAreJudgedOnce → (text : List ℕ) (system : System) (lines : List ℕ) → ReadsFrom text system lines → (found : Option Refusal)
    → refusal_of system ≡ found → IsAcceptedOrRefused text
judged_by_rules cycles text system lines from None is = judged_by_order cycles text system lines from ((well_formed system).1 is)
judged_by_rules cycles text system lines from (Some refusal) is = let refused = broken_is_refused text system lines refusal from is in
    inr (refused.0, refusal.by, refused.1)

pub judged : CyclesAreJudgedOnce → (text : List ℕ) → IsAcceptedOrRefused text
judged cycles text = by_answer (once text).answered
  where
    by_answer : ((system : System) × Reads text system) ⊎ ((line : ℕ) × (rule : ℕ) × IsRefused text line rule) → IsAcceptedOrRefused text
    by_answer (inl (system, reads)) =
        let lines = in_canonical_order reads.parts (numbers_of (source_lines text)) in
        judged_by_rules cycles text system lines (record { reads = reads; are_lines = refl }) (refusal_of system) refl
    by_answer (inr (line, rule, refused)) = inr (line, rule, inl refused)

-- ---- Lines of the code's results

-- the line of a refusal is one of those that canonical lines came from
pub refusal_inside : (system : System) (lines : List ℕ) (refusal : Refusal) → length lines ≡ length (canonical_forms system)
    → refusal_of system ≡ Some refusal → (1 ≤ refusal.at) × (refusal.at ≤ length lines)
refusal_inside system lines refusal many found =
    let within = refusal_lines system refusal found in
    let same = many ∙ sym (sites_count system) in
    (within.0, let last = within.1 in omega (arith, last, same))

-- and so is the line of an output
pub output_inside : (system : System) (lines : List ℕ) (port : PortName) (item : ℕ) → length lines ≡ length (canonical_forms system)
    → line_of_output system port ≡ Some item → (1 ≤ item) × (item ≤ length lines)
output_inside system lines port item many declared =
    let within = found_within (λ at. declares_output port.port (unit_at system port) at.1.scope at.1.line) 1 (sites_of system) item declared in
    let same = many ∙ sym (sites_count system) in
    (within.0, let last = within.1 in omega (arith, last, same))

-- ---- Once

pub accepted_once : (text : List ℕ) (one other : System) (ones others : List ℕ) → IsAcceptedAs text one ones → IsAcceptedAs text other others
    → (one ≡ other) × (ones ≡ others)
accepted_once text one other ones others a b = one_source text one other ones others a.reads b.reads

-- A system without a refusal is well-formed, and one with a refusal is not.
none_refused : (system : System) (refusal : Refusal) → IsWellFormed system → refusal_of system ≡ Some refusal → ⊥
none_refused system refusal well found = let none = (well_formed system).0 well in absurd (cc)

system_refused_once : CyclesAreJudgedOnce → (system : System) (lines : List ℕ) (line by other rule : ℕ) → IsSystemRefusedAt system lines line by
    → IsSystemRefusedAt system lines other rule → (line ≡ other) × (by ≡ rule)
system_refused_once cycles system lines line by other rule (inl a) (inl b) =
    let one : a.refusal ≡ b.refusal = same_Some a.refusal b.refusal (sym a.found ∙ b.found) in (
      same_Some line other (sym a.at ∙ ap (λ (r : Refusal). source_line lines r.at) one ∙ b.at),
      a.by ∙ ap (λ (r : Refusal). r.by) one ∙ sym b.by,
    )
system_refused_once cycles system lines line by other rule (inr a) (inr b) =
    let port : a.port ≡ b.port = cycles.one_port system a.port b.port a.first b.first in
    let item : a.item ≡ b.item = same_Some a.item b.item (sym a.declared ∙ ap (line_of_output system) port ∙ b.declared) in
    (same_Some line other (sym a.at ∙ ap (source_line lines) item ∙ b.at), a.by ∙ sym b.by)
system_refused_once cycles system lines line by other rule (inl a) (inr b) = absurd (none_refused system a.refusal b.well_formed a.found)
system_refused_once cycles system lines line by other rule (inr a) (inl b) = absurd (none_refused system b.refusal a.well_formed b.found)

says_refused_once : CyclesAreJudgedOnce → (text : List ℕ) (line by other rule : ℕ) → SaysRefused text line by → SaysRefused text other rule
    → (line ≡ other) × (by ≡ rule)
says_refused_once cycles text line by other rule a b =
    let same = one_source text a.system b.system a.lines b.lines a.reads b.reads in
    let here : IsSystemRefusedAt b.system b.lines line by =
    subst (λ lines. IsSystemRefusedAt b.system lines line by) same.1
    (subst (λ (s : System). IsSystemRefusedAt s a.lines line by) same.0 a.refused) in
    system_refused_once cycles b.system b.lines line by other rule here b.refused

pub refused_at_once : CyclesAreJudgedOnce → (text : List ℕ) (line by other rule : ℕ) → IsRefusedAt text line by → IsRefusedAt text other rule
    → (line ≡ other) × (by ≡ rule)
refused_at_once cycles text line by other rule (inl a) (inl b) = refused_once text line by other rule a b
refused_at_once cycles text line by other rule (inl a) (inr b) = absurd ((once text).not_both b.system line by b.reads.reads a)
refused_at_once cycles text line by other rule (inr a) (inl b) = absurd ((once text).not_both a.system other rule a.reads.reads b)
refused_at_once cycles text line by other rule (inr a) (inr b) = says_refused_once cycles text line by other rule a b

keeps_or_breaks : CyclesAreJudgedOnce → (system : System) (lines : List ℕ) (line rule : ℕ) → IsWellFormed system → HasNoCycle system
    → IsSystemRefusedAt system lines line rule → ⊥
keeps_or_breaks cycles system lines line rule well ordered (inl b) = none_refused system b.refusal well b.found
keeps_or_breaks cycles system lines line rule well ordered (inr b) = cycles.not_both system b.port ordered b.first

pub not_both : CyclesAreJudgedOnce → (text : List ℕ) (system : System) (lines : List ℕ) (line rule : ℕ) → IsAcceptedAs text system lines
    → IsRefusedAt text line rule → ⊥
not_both cycles text system lines line rule a (inl b) = (once text).not_both system line rule a.reads.reads b
not_both cycles text system lines line rule a (inr b) =
    let same = one_source text system b.system lines b.lines a.reads b.reads in
    keeps_or_breaks cycles b.system b.lines line rule (subst IsWellFormed same.0 a.well_formed) (subst HasNoCycle same.0 a.ordered) b.refused

pub judged_once : EveryTextIsJudgedOnce
judged_once text = record {
  judged = judged judged_cycles text;
  one_system = accepted_once text;
  one_refusal = refused_at_once judged_cycles text;
  not_both = not_both judged_cycles text;
}
