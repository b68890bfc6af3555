-- `senmyo_moon::signed_row` meets its contract: each row of its table is the definition's at its place, under the sign of its half.
use Rattle.std.proofs.Common.{arith}
use Rattle.std.proofs.lemmas.List.FromFn.{get_or-map-range_with_len}
use Rattle.senmyo_moon.specs.Moon.{upper_rows, lower_rows}
use Rattle.senmyo_moon.specs.Room.{stand_in, first_row_at}
use Rattle.senmyo_moon.proofs.signed_row.Goals as goal

pub returns : goal.returns
unfolding upper_rows lower_rows stand_in
returns c = get_or-map-range_with_len first_row_at 0 28 c.args.place c.args.place _ c.requires (omega arith)
