use Rattle.std.proofs.Common.{◌≡◌, ◌≤◌, ◌++◌, drop, length}
use Rattle.std.specs.Prelude.{vec_capacity}
use Rattle.std.specs.List.{filter_map}
use Rattle.link_laws.specs.Making.{ports_in}
use Rattle.link_core.proofs.course.put_known.Given as goal

abbrev pub invariant-loop-place : goal.invariant-loop-place
invariant-loop-place l = record {
  so_far : l.words.items ++ filter_map (λ word. word) (ports_in (drop l.place l.seen)) ≡ filter_map (λ word. word) (ports_in l.seen);
  few : length l.words.items ≤ l.place;
  room : vec_capacity l.fn.words ≤ vec_capacity l.words;
}
