-- `year_line::numbers_of` meets its contract: it reads a number before the first space and a number behind it, and refuses where the definition does.
use borrow.Author.Rules.{part_to_end}
use Rattle.std.proofs.Common.{◌≡◌, Some, arith}
use Rattle.answers.specs.Conditions.{asking}
use Rattle.year_line.specs.Line.{numbers_of}
use Rattle.year_line.proofs.Missing.{missing}
use Rattle.year_line.proofs.numbers_of.Goals as goal

pub returns-in_err-space : goal.returns-in_err-space
unfolding asking numbers_of
returns-in_err-space c =
    let no_space = missing _ _ _ c.from_residual.result c.ok_or.ensures.value c.in_err-space.was c.from_residual.ensures.1 in
    rw (no_space.told_is, rw no_space.none at c.place_of.ensures)

pub returns-in_err-calendar : goal.returns-in_err-calendar
unfolding asking numbers_of
returns-in_err-calendar c =
    let place : c.place_of.result ≡ Some c.in_ok-space.space = grind arith in
    let space = rw place at c.place_of.ensures in
    let no_number = missing _ _ _ c.from_residual-in_err-calendar.result c.ok_or-2.ensures.value c.in_err-calendar.was c.from_residual-in_err-calendar.ensures.1 in
    rw (no_number.told_is, space.found, rw (no_number.none, space.front) at c.number_of.ensures)

pub returns-in_err-year : goal.returns-in_err-year
unfolding asking numbers_of
returns-in_err-year c =
    let place : c.place_of.result ≡ Some c.in_ok-space.space = grind arith in
    let first : c.number_of.result ≡ Some c.in_ok-calendar.calendar = grind arith in
    let space = rw place at c.place_of.ensures in
    let calendar = rw (first, space.front) at c.number_of.ensures in
    let no_number = missing _ _ _ c.from_residual-in_err-year.result c.ok_or-3.ensures.value c.in_err-year.was c.from_residual-in_err-year.ensures.1 in
    rw (no_number.told_is, space.found, calendar.number, rw (no_number.none, part_to_end _ _, space.rest) at c.number_of-2.ensures)

pub returns : goal.returns
unfolding asking numbers_of
returns c =
    let place : c.place_of.result ≡ Some c.in_ok-space.space = grind arith in
    let first : c.number_of.result ≡ Some c.in_ok-calendar.calendar = grind arith in
    let second : c.number_of-2.result ≡ Some c.in_ok-year.year = grind arith in
    let space = rw place at c.place_of.ensures in
    let calendar = rw (first, space.front) at c.number_of.ensures in
    let year = rw (second, part_to_end _ _, space.rest) at c.number_of-2.ensures in
    rw (space.found, calendar.number, year.number, calendar.value_is, year.value_is)
