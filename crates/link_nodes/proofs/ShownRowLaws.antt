-- What is written, call by call.
use Rattle.std.proofs.Common.{◌≡◌, ◌∙◌, ℕ, Bool, true, false, not, is_none, is_some, List, [], ◌++◌, length, Option, Some, None, Result}
use Rattle.std.proofs.Common.{Ok, Err, refl, sym, ap, ap₂, subst, arith, append-nil, append_assoc}
use Rattle.std.specs.Prelude.{OnOk, OnErr, if◌then◌else◌}
use Rattle.std.specs.List.{cons_option}
use Rattle.std.specs.Io.KnownBytes.{Appends}
use Rattle.std.proofs.KnownBytes.{Appends-nil, Appends-trans}
use Rattle.cosim_io.specs.Pieces.{AppendsPrefix}
use Rattle.cosim_io.proofs.PieceLemmas.{AppendsPrefix-after, AppendsPrefix-longer, AppendsPrefix-nil}
use Rattle.link_laws.specs.Keeping.{IsHonest, KeepsTo}
use Rattle.link_laws.specs.Making.{rule_of}
use Rattle.link_laws.specs.Nodes.{Progress, Rule, taken, worked}
use Rattle.link_laws.specs.declared.fact.Fact.{Fact}
use Rattle.link_laws.specs.declared.taken.Taken.{Taken}
use Rattle.link_nodes.proofs.Committed.{taken_grows, worked_grows}
use Rattle.link_nodes.proofs.LaterLaws.{IsLater, shown_more}
use Rattle.link_nodes.specs.ShownRows.{ComesTo, IsJudged, Shows, ShowsPast, comes, rows_come_to}
use Rattle.link_nodes.specs.Shown.{lines_shown}
use Rattle.trace_plan.specs.Plans.{Planned}
use Rattle.trace_rows.specs.Faults.{TellsFault}
use Rattle.trace_rows.specs.Lines.{lines_of}
use Rattle.trace_rows.specs.declared.fault.CrewFault.{CrewFault}
use Rattle.trace_rows.specs.declared.fault.CrewFault.TheVariants.{NoMemory, WriteFault}
use Rattle.trace_rows.proofs.RowLaws.{no_lines, tells_after}
use Rattle.unit_tree.specs.Trace.{IsTrace, Row as TraceRow, Stand}
use Rattle.unit_tree.specs.declared.ending.Ending.{Ending}

-- ---- Faults

err_write : (A B : Type 0) (fault : CrewFault) → ◌≡◌ {A = Result B CrewFault} (Err fault) (Err WriteFault)
    → ◌≡◌ {A = Result A CrewFault} (Err fault) (Err WriteFault)
err_write A B fault is = let same : fault ≡ WriteFault = cc in ap (λ f. Err f) same

pub tells_as : (A B : Type 0) (faults faults' : ℕ) (fault : CrewFault) → TellsFault {T = A} faults faults' (Err fault)
    → TellsFault {T = B} faults faults' (Err fault)
tells_as A B faults faults' fault tells = record {
  later = tells.later;
  failed = λ e. tells.failed (err_write A B fault e);
  same = λ other. tells.same (λ e. other (err_write B A fault e));
}

pub tells_dry : (B : Type 0) (faults faults' : ℕ) → faults' ≡ faults → TellsFault {T = B} faults faults' (Err NoMemory)
tells_dry B faults faults' same = record { later = omega (arith, same); failed = λ e. absurd (cc); same = λ other. same }

-- The consequence of `is_none`.
pub going_told : (found ended : Option Ending) (going : Bool) → is_some found ≡ not going → found ≡ ended → going ≡ is_none ended
going_told found None true told is = refl
going_told found None false told is = absurd (let same = ap is_some is in cc (told, same))
going_told found (Some ending) true told is = absurd (let same = ap is_some is in cc (told, same))
going_told found (Some ending) false told is = refl

abbrev pub Done : Type 0
Done = Result (Unit {0}) CrewFault

module _ (plan : Planned) where
  -- ---- What is shown

  pub shows_none : (node : Progress) (held : Option (List ℕ)) → Shows plan node node held held
  shows_none node held = record {
    grows = λ stands ending trace.
        record { piece = []; is = sym (append-nil (lines_shown plan node stands)); put = Appends-nil held };
  }

  pub shows_then : (one two three : Progress) (held0 held1 held2 : Option (List ℕ)) → Shows plan one two held0 held1 → Shows plan two three held1 held2
      → Shows plan one three held0 held2
  shows_then one two three held0 held1 held2 first second = record {
    grows = λ stands ending trace.
        let a = first.grows stands ending trace in
        let b = second.grows stands ending trace in
        record {
          piece = a.piece ++ b.piece;
          is = b.is ∙ ap (λ text. text ++ b.piece) a.is ∙ append_assoc (lines_shown plan one stands) a.piece b.piece;
          put = Appends-trans held0 held1 held2 a.piece b.piece a.put b.put;
        };
  }

  pub shows_past : (one two three : Progress) (held0 held1 held2 : Option (List ℕ)) → Shows plan one two held0 held1 → ShowsPast plan two three held1 held2
      → ShowsPast plan one three held0 held2
  shows_past one two three held0 held1 held2 first second = record {
    grows = λ stands ending trace.
        let a = first.grows stands ending trace in
        let b = second.grows stands ending trace in
        record {
          piece = a.piece ++ b.piece;
          is = b.is ∙ ap (λ text. text ++ b.piece) a.is ∙ append_assoc (lines_shown plan one stands) a.piece b.piece;
          put = AppendsPrefix-after held0 held1 held2 a.piece b.piece a.put b.put;
        };
  }

  -- Nothing was written before the call was given up.
  pub none_past : (node target : Progress) (held : Option (List ℕ)) → IsLater node target → ShowsPast plan node target held held
  none_past node target held later = record {
    grows = λ stands ending trace.
        let more = shown_more plan node target stands later in
        record { piece = more.0; is = more.1; put = AppendsPrefix-nil held more.0 };
  }

  -- A prefix of what is shown is a prefix of what is shown later.
  pub past_later : (node target beyond : Progress) (old new : Option (List ℕ)) → ShowsPast plan node target old new → IsLater target beyond
      → ShowsPast plan node beyond old new
  past_later node target beyond old new past later = record {
    grows = λ stands ending trace.
        let a = past.grows stands ending trace in
        let more = shown_more plan target beyond stands later in
        record {
          piece = a.piece ++ more.0;
          is = more.1 ∙ ap (λ text. text ++ more.0) a.is ∙ append_assoc (lines_shown plan node stands) a.piece more.0;
          put = AppendsPrefix-longer old new a.piece more.0 a.put;
        };
  }

  -- ---- Calls

  -- A call that wrote the row to which it came.
  pub comes_once : (node target : Progress) (rows : List TraceRow) (old new : Option (List ℕ)) (faults faults' : ℕ) (result : Done)
      → ((stands : List Stand) (ending : Ending) → IsTrace plan.run stands ending
      → lines_shown plan target stands ≡ lines_shown plan node stands ++ lines_of plan.system rows)
      → OnOk result (Appends old new (lines_of plan.system rows)) → OnErr result (AppendsPrefix old new (lines_of plan.system rows))
      → TellsFault faults faults' result
      → ComesTo plan node target target old new faults faults' result
  comes_once node target rows old new faults faults' (Ok done) grown whole front cause = record {
    there = refl;
    shown = record { grows = λ stands ending trace. record { piece = lines_of plan.system rows; is = grown stands ending trace; put = whole } };
    past = tt;
    cause = cause;
  }
  comes_once node target rows old new faults faults' (Err fault) grown whole front cause = record {
    there = tt;
    shown = tt;
    past = record { grows = λ stands ending trace. record { piece = lines_of plan.system rows; is = grown stands ending trace; put = front } };
    cause = cause;
  }

  -- A call that was given up.
  pub comes_up : {A : Type 0} (node target next : Progress) (old new : Option (List ℕ)) (faults faults' : ℕ) (fault : CrewFault) (result : Result A CrewFault)
      → ShowsPast plan node target old new
      → TellsFault {T = A} faults faults' (Err fault) → result ≡ Err fault → ComesTo plan node target next old new faults faults' result
  comes_up node target next old new faults faults' fault result past cause is =
      subst (ComesTo plan node target next old new faults faults') (sym is) (record { there = tt; shown = tt; past = past; cause = cause })

  -- One call after another.
  pub comes_on : (one two two' three three' next : Progress) (held0 held1 held2 : Option (List ℕ)) (faults0 faults1 faults2 : ℕ) (result : Done)
      → ComesTo {T = Unit {0}} plan one two two' held0 held1 faults0 faults1 (Ok tt) → ComesTo plan two' three' next held1 held2 faults1 faults2 result
      → three' ≡ three
      → ComesTo plan one three next held0 held2 faults0 faults2 result
  comes_on one two two' three three' next held0 held1 held2 faults0 faults1 faults2 result first second is =
      by_result result (subst (λ target. ComesTo plan two target next held1 held2 faults1 faults2 result) is
      (subst (λ start. ComesTo plan start three' next held1 held2 faults1 faults2 result) first.there second))
    where
      same : faults1 ≡ faults0
      same = first.cause.same (λ e. absurd (cc))

      by_result : (told : Done) → ComesTo plan two three next held1 held2 faults1 faults2 told → ComesTo plan one three next held0 held2 faults0 faults2 told
      by_result (Ok done) on = record {
        there = on.there;
        shown = shows_then one two three held0 held1 held2 first.shown on.shown;
        past = tt;
        cause = tells_after faults0 faults1 faults2 (Ok done) same on.cause;
      }
      by_result (Err fault) on = record {
        there = tt;
        shown = tt;
        past = shows_past one two three held0 held1 held2 first.shown on.past;
        cause = tells_after faults0 faults1 faults2 (Err fault) same on.cause;
      }

  -- The first of several was given up.
  pub comes_short : {A B : Type 0} (one two three two' next : Progress) (old new : Option (List ℕ)) (faults faults' : ℕ) (fault : CrewFault)
      (result : Result B CrewFault)
      → ComesTo {T = A} plan one two two' old new faults faults' (Err fault) → IsLater two three → result ≡ Err fault
      → ComesTo plan one three next old new faults faults' result
  comes_short {A} {B} one two three two' next old new faults faults' fault result first later is =
      comes_up one three next old new faults faults' fault result (past_later one two three old new first.past later)
      (tells_as A B faults faults' fault first.cause) is

  -- After it memory was refused.
  pub comes_dry : {B : Type 0} (one two two' three next : Progress) (old new : Option (List ℕ)) (faults faults' : ℕ) (result : Result B CrewFault)
      → ComesTo {T = Unit {0}} plan one two two' old new faults faults' (Ok tt) → IsLater two three → result ≡ Err NoMemory
      → ComesTo plan one three next old new faults faults' result
  comes_dry {B} one two two' three next old new faults faults' result first later is =
      comes_up one three next old new faults faults' NoMemory result (shows_past one two three old new new first.shown (none_past two three new later))
      (tells_dry B faults faults' (first.cause.same (λ e. absurd (cc)))) is

  -- No call yet.
  pub comes_none : (node : Progress) (held : Option (List ℕ)) (faults : ℕ) → ComesTo {T = Unit {0}} plan node node node held held faults faults (Ok tt)
  comes_none node held faults = record {
    there = refl;
    shown = shows_none node held;
    past = tt;
    cause = record { later = omega arith; failed = λ e. absurd (cc); same = λ other. refl };
  }

  -- ---- Calls of node 0

  module _ (judged : IsJudged plan) (owners : List ℕ) (owns : length owners ≡ length plan.run.members) (node : Progress)
      (keeps : KeepsTo plan.run (rule_of plan.run owners) 0 node) where
    abbrev rule : Rule
    rule = rule_of plan.run owners

    comes_by : (did : Progress × Taken) (next : Progress) (came : Taken) (going : Bool) (old new : Option (List ℕ)) (faults faults' : ℕ) (result : Done)
        → ((stands : List Stand) (ending : Ending) → IsTrace plan.run stands ending
        → lines_shown plan did.0 stands ≡ lines_shown plan node stands ++ lines_of plan.system (rows_come_to (is_none node.ended) did))
        → (next, came) ≡ did → going ≡ is_none node.ended
        → OnOk result (Appends old new (lines_of plan.system (rows_come_to going (next, came))))
        → OnErr result (AppendsPrefix old new (lines_of plan.system (rows_come_to going (next, came))))
        → TellsFault faults faults' result → ComesTo plan node did.0 next old new faults faults' result
    comes_by did next came going old new faults faults' result grown is going_is whole front cause =
        let rows : rows_come_to going (next, came) ≡ rows_come_to (is_none node.ended) did = ap₂ rows_come_to going_is is in
        let once = comes_once node did.0 (rows_come_to (is_none node.ended) did) old new faults faults' result grown
        (subst (λ all. OnOk result (Appends old new (lines_of plan.system all))) rows whole)
        (subst (λ all. OnErr result (AppendsPrefix old new (lines_of plan.system all))) rows front) cause in
        subst (λ to. ComesTo plan node did.0 to old new faults faults' result) (sym (ap (λ (one : Progress × Taken). one.0) is)) once

    pub work_comes : (next : Progress) (came : Taken) (going : Bool) (old new : Option (List ℕ)) (faults faults' : ℕ) (result : Done)
        → (next, came) ≡ worked rule 0 node → going ≡ is_none node.ended
        → OnOk result (Appends old new (lines_of plan.system (rows_come_to going (next, came))))
        → OnErr result (AppendsPrefix old new (lines_of plan.system (rows_come_to going (next, came))))
        → TellsFault faults faults' result → ComesTo plan node (worked rule 0 node).0 next old new faults faults' result
    work_comes next came going old new faults faults' result is going_is whole front cause =
        comes_by (worked rule 0 node) next came going old new faults faults' result
        (λ stands ending trace.
        worked_grows plan judged.order judged.is_order judged.members owners owns stands ending trace node keeps) is going_is whole front cause

    pub take_comes : (fact : Fact) → IsHonest plan.run fact
        → (next : Progress) (came : Taken) (going : Bool) (old new : Option (List ℕ)) (faults faults' : ℕ) (result : Done)
        → (next, came) ≡ taken rule 0 node fact → going ≡ is_none node.ended
        → OnOk result (Appends old new (lines_of plan.system (rows_come_to going (next, came))))
        → OnErr result (AppendsPrefix old new (lines_of plan.system (rows_come_to going (next, came))))
        → TellsFault faults faults' result → ComesTo plan node (taken rule 0 node fact).0 next old new faults faults' result
    take_comes fact honest next came going old new faults faults' result is going_is whole front cause =
        comes_by (taken rule 0 node fact) next came going old new faults faults' result
        (λ stands ending trace.
        taken_grows plan judged.order judged.is_order judged.members owners owns stands ending trace node fact keeps honest) is going_is whole front cause

  -- There was no memory for a call of node 0.
  pub comes_not : {B : Type 0} (node target next : Progress) (held : Option (List ℕ)) (faults : ℕ) (result : Result B CrewFault) → IsLater node target
      → result ≡ Err NoMemory
      → ComesTo plan node target next held held faults faults result
  comes_not {B} node target next held faults result later is =
      comes_up node target next held held faults faults NoMemory result (none_past node target held later) (tells_dry B faults faults refl) is

  -- A call after others was given up.
  pub part_up : (start now one target next : Progress) (held0 held1 held2 : Option (List ℕ)) (faults0 faults1 faults2 : ℕ) (fault : CrewFault) (result : Done)
      → ComesTo {T = Unit {0}} plan start now now held0 held1 faults0 faults1 (Ok tt)
      → ComesTo {T = Unit {0}} plan now one next held1 held2 faults1 faults2 (Err fault) → IsLater one target → result ≡ Err fault
      → ComesTo plan start target next held0 held2 faults0 faults2 result
  part_up start now one target next held0 held1 held2 faults0 faults1 faults2 fault result first second later is =
      comes_short start one target next next held0 held2 faults0 faults2 fault result
      (comes_on start now now one one next held0 held1 held2 faults0 faults1 faults2 (Err fault) first second refl) later is

  -- The row to which it came.
  pub comes_there : (node next target : Progress) (old new : Option (List ℕ)) (faults faults' : ℕ)
      → ComesTo {T = Unit {0}} plan node target next old new faults faults' (Ok tt) → ComesTo {T = Unit {0}} plan node next next old new faults faults' (Ok tt)
  comes_there node next target old new faults faults' so =
      subst (λ to. ComesTo {T = Unit {0}} plan node to next old new faults faults' (Ok tt)) (sym so.there) so

  -- ---- No row to be written

  nothing_put : (rows : List TraceRow) (held : Option (List ℕ)) → rows ≡ [] → Appends held held (lines_of plan.system rows)
  nothing_put rows held none = subst (Appends held held) (sym (ap (lines_of plan.system) none ∙ no_lines plan.system)) (Appends-nil held)

  pub no_rows : (going : Bool) (node : Progress) (came : Taken) (told : Bool) (held : Option (List ℕ)) → told ≡ comes going came → told ≡ false
      → Appends held held (lines_of plan.system (rows_come_to going (node, came)))
  no_rows going node came told held is not_so = nothing_put (rows_come_to going (node, came)) held
      (ap (λ one. if one then cons_option node.row [] else []) (sym is ∙ not_so))

  pub no_row_there : (going : Bool) (node : Progress) (came : Taken) (held : Option (List ℕ)) → node.row ≡ None
      → Appends held held (lines_of plan.system (rows_come_to going (node, came)))
  no_row_there going node came held none =
      nothing_put (rows_come_to going (node, came)) held (ap (λ row. if comes going came then cons_option row [] else []) none ∙ either (comes going came))
    where
      either : (told : Bool) → ◌≡◌ {A = List TraceRow} (if told then [] else []) []
      either true = refl
      either false = refl
