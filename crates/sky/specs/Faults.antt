-- What is wrong with a row of a star catalogue, in words.
use Rattle.std.specs.Prelude.{ℕ, List, codes}
use Rattle.sky.specs.declared.fault.RowFault.{RowFault}
use Rattle.sky.specs.declared.fault.RowFault.TheVariants.{Fields, Name, Ascension, Declination}

abbrev pub fault_text : RowFault → List ℕ
fault_text Fields = codes "the row is not NAME,ASCENSION,DECLINATION"
fault_text Name = codes "the name is not 1 to 40 bytes of UTF-8 without { } :"
fault_text Ascension = codes "the right ascension is no whole number from 0 to 1295999999"
fault_text Declination = codes "the declination is no whole number from -324000000 to 324000000"
