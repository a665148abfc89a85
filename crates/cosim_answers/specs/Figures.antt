-- The figures of a trace, which `bench` prints instead of its rows.
use Rattle.std.specs.Prelude.{ℕ, ℤ, List, ◌++◌, codes}
use Rattle.std.specs.Fmt.{decimal, signed_decimal}
use Rattle.super_time.specs.declared.point.Point.{Point}
use Rattle.cosim_call.specs.Notes.{line_end}

-- The line of a figure, by its name.
abbrev pub figure_line : List ℕ → List ℕ → List ℕ
figure_line name figure = name ++ codes " " ++ figure ++ line_end

-- A point, its time in ticks.
abbrev pub ticks_text : Point → List ℕ
ticks_text point = decimal point.t ++ codes "," ++ decimal point.n

-- The figures: how many components there are, how many rows the trace has, its last point in ticks, and the sum of all words in it.
abbrev pub figures_text : ℕ → ℕ → Point → ℤ → List ℕ
figures_text instances rows last sum =
    figure_line (codes "instances") (decimal instances)
    ++ figure_line (codes "rows") (decimal rows)
    ++ figure_line (codes "last") (ticks_text last)
    ++ figure_line (codes "sum") (signed_decimal sum)
