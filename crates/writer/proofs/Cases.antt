-- The worked messages and calls of specs/Cases.antt, by computation.
use mathlib.Core.Path.{refl}
use Rattle.octets.specs.Bytes.{writes, decimal}
use Rattle.frame.specs.Frame.{fixt}
use Rattle.dates.specs.Date.{good_day, good_clock}
use Rattle.kinds.specs.Kind.{kind_of, is_number, formed, allowed}
use Rattle.table.specs.Dictionary.{№453, №580, №552, header, code35, fields, type_of, administrative, groups_of, rows_of}
use Rattle.message.specs.Message.{framed, own, order, written}
use Rattle.message.specs.Unfit.{rejected, required}
use Rattle.writer.specs.Tags.{tags, numeric}
use Rattle.writer.specs.Call.{value_in, refused8, admin, write}
use Rattle.writer.specs.Cases.{Cases}

pub cases : Cases
unfolding write value_in rejected required refused8 admin written framed order own tags numeric kind_of is_number formed allowed good_day good_clock №453 №580 №552 header code35 fields type_of administrative groups_of rows_of writes decimal fixt
cases =
    record {
      by_call = λ buf. refl;
      zero_16 = refl;
      zero_371 = refl;
      type_F = λ buf. refl;
      type_AE = λ buf. refl;
      absent_52 = λ buf. refl;
      outside_52 = refl;
      short_72 = refl;
    }
