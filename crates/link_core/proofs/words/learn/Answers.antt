use Rattle.std.proofs.Common.{◌∙◌, Some, map, ap, sym, length-set}
use Rattle.std.specs.Prelude.{slice_set}
use Rattle.link_laws.specs.Making.{ports_in}
use Rattle.link_core.specs.Noted.{is_defined}
use Rattle.link_core.proofs.WordLaws.{defined_set, ports_learnt}
use Rattle.link_core.proofs.words.learn.Goals as goal

pub returns-clause-notes : goal.returns-clause-notes
returns-clause-notes c =
    let words = c.args.notes.now.words.items in
    record {
      words = length-set words c.args.place (Some c.args.seen) ∙ c.requires.notes.words;
      limits = c.requires.notes.limits;
      replies = c.requires.notes.replies;
      redos = c.requires.notes.redos;
      defined =
          ap (λ all. slice_set all c.args.place c.is_word.result) c.requires.notes.defined
          ∙ ap (slice_set (map is_defined words) c.args.place) c.is_word.ensures
          ∙ sym (defined_set words c.args.place (Some c.args.seen));
    }

pub returns-clause-words : goal.returns-clause-words
returns-clause-words c =
    ports_learnt c.args.plan.now.run c.args.notes.now.words.items c.args.place c.args.seen c.feed_seen.new.units.inputs c.requires.lacks
    (c.feed_seen.ensures.words (ports_in c.args.notes.now.words.items) c.requires.words)
