-- The worked reports, by computation.
use mathlib.Core.Path.{refl}
use Rattle.octets.specs.Bytes.{writes, decimal}
use Rattle.frame.specs.Frame.{fixt}
use Rattle.fields.specs.Field.{part_of, first_field, is_body}
use Rattle.dates.specs.Date.{good_day, good_clock}
use Rattle.kinds.specs.Kind.{kind_of, is_number, formed, allowed}
use Rattle.decimals.specs.Decimal.{is_decimal, decimal_of}
use Rattle.table.specs.Dictionary.{№453, №580, №552, header, code35, fields, groups_of, rows_of}
use Rattle.calendar.specs.Time.{year_days, in_year, date_of, utc, microseconds}
use Rattle.message.specs.Message.{framed}
use Rattle.message.specs.Unfit.{rejected, required, comp_id}
use Rattle.message.specs.Whole.{body_in}
use Rattle.amounts.specs.Amount.{amount_text, amount_in}
use Rattle.report.specs.Values.{takes}
use Rattle.report.specs.Report.{sent, again, every_field, values_in, report_in, sendable, read}
use Rattle.report.specs.Layout.{values_given}
use Rattle.report.specs.Cases.{Told}

pub told : Told
unfolding writes decimal fixt part_of first_field is_body kind_of is_number formed good_day good_clock allowed is_decimal decimal_of №453 №580 №552 header code35 fields groups_of rows_of framed body_in year_days in_year date_of utc microseconds amount_text amount_in rejected required takes sent again every_field values_in report_in comp_id sendable read values_given
told =
    record {
      as_listed = λ v. refl;
      plainly = record { first = refl; read_back = refl; second = refl };
      fully = record { first = refl; read_back = refl; second = refl };
      unfit = (refl, (refl, (refl, (refl, (refl, (refl, (refl, (refl, (refl, (refl, (refl, (refl, (refl, (refl, (refl, (refl, (refl, tt)))))))))))))))));
      longest = refl;
      refused = (refl, (refl, (refl, (refl, tt))));
      others = (refl, (refl, (refl, (refl, (refl, (refl, (refl, (refl, (refl, (refl, (refl, (refl, (refl, (refl, tt))))))))))))));
      names = refl;
      given = refl;
      not_given = (refl, (refl, (refl, (refl, tt))));
    }
