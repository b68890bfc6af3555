-- Every rate and every first of the table is what the three sums that it comes from give.
use mathlib.Core.Path.{◌≡◌, refl}
use mathlib.Core.List.{map}
use Rattle.numbers.specs.Rounding.{nearest}
use Rattle.senmyo_sun.specs.declared.Term.{Term}
use Rattle.senmyo_sun.specs.Sun.{Row, solstice_row, later_rows, sun_rows}
use Rattle.senmyo_sun.specs.Sums.{rate_from, first_from, quarter_from, year_from}

abbrev numbers : Row → Term
numbers r = r.term

pub from_sums : map numbers sun_rows ≡ year_from
unfolding nearest solstice_row later_rows rate_from first_from quarter_from
from_sums = refl
