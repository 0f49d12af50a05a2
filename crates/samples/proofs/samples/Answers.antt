-- Each sample is computed.
use Rattle.std.proofs.Common.{refl}
use lib.Utf8.{encode}
use Rattle.std.specs.Fmt.{digits}
use Rattle.std.specs.Str.{chars}
use Rattle.decimal.specs.Reading.{tens}
use Rattle.decimal.specs.Range.{at_most}
use Rattle.samples.proofs.samples.Goals as goal

pub returns : goal.returns
unfolding chars encode digits tens at_most
returns c = record {
  count = refl;
  follow = (refl, (refl, (refl, (refl, (refl, ((refl, refl), ((refl, refl), ((refl, refl), (refl, ((refl, refl), tt))))))))));
}
