-- `year_line::line_of` meets its contract: it asks for the numbers of what stands before the first line feed, as the definition does.
use Rattle.std.proofs.Common.{◌≡◌, Some, arith}
use Rattle.answers.specs.Conditions.{asking}
use Rattle.year_line.specs.Line.{numbers_of, line_of}
use Rattle.year_line.proofs.Missing.{missing}
use Rattle.year_line.proofs.line_of.Goals as goal

pub returns-in_err-end : goal.returns-in_err-end
unfolding asking line_of
returns-in_err-end c =
    let no_end = missing _ _ _ c.from_residual.result c.ok_or.ensures.value c.in_err-end.was c.from_residual.ensures.1 in
    rw (no_end.told_is, rw no_end.none at c.place_of.ensures)

pub returns : goal.returns
unfolding asking numbers_of line_of
returns c =
    let place : c.place_of.result ≡ Some c.in_ok-end.end = grind arith in
    let end = rw place at c.place_of.ensures in
    rw end.found (rw end.front at c.numbers_of.ensures)
