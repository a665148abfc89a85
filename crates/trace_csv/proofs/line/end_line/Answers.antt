use Rattle.std.proofs.Common.{◌≡◌, ◌∙◌, ◌≤◌, ◌++◌, [], Some, arith, sym, ap}
use Rattle.std.proofs.lemmas.List.{append-nil}
use Rattle.csv.specs.Writing.{fields_written, writer_under}
use Rattle.trace_csv.specs.Lines.{line_of}
use Rattle.trace_csv.proofs.LineLaws.{tail_is, line_ends}
use Rattle.trace_csv.proofs.line.end_line.Goals as goal
use Rattle.trace_csv.proofs.line.end_line.Goals.{in-Ok-flush, in-Err-flush}

pub returns : goal.returns
returns c =
    λ quoting before fields has two.
    elim c.match-flush.branch [
      | in-Ok-flush w ↦
          let e = w.in-Ok-flush.ensures in
          let d = c.in-Ok.ensures in
          let many : 2 ≤ fields_written c.args.line.now = rw has.count (omega (arith, two)) in
          let ended = rw (has.setup, tail_is quoting c.args.line.now.wrote (fields_written c.args.line.now) many) at d.bytes in
          let whole = line_ends before _ _ fields has.text ended in
          let under : (writer_under c.flush.new.self).items ≡ before ++ line_of fields = sym (append-nil _)
          ∙ ap (λ rest. (writer_under c.flush.new.self).items ++ rest) (sym e.pending) ∙ e.bytes ∙ whole in
          rw w.result-is (
            under,
            record {
              setup = e.setup ∙ d.same ∙ has.setup;
              quotes = has.quotes;
              count = e.fields ∙ d.fields;
              text = ap (λ rest. Some ((writer_under c.flush.new.self).items ++ rest)) e.pending ∙ ap (λ text. Some (text ++ [])) under;
            },
          )
      | in-Err-flush w ↦ rw w.result-is tt
    ]
