-- How the elements of an array are handed apart.
use Rattle.std.specs.FinMap as map
use Rattle.std.specs.Coded.{Coded, coded_list, coded_ℕ}
use Rattle.rawk_value.specs.declared.value.Value.{Value}
use Rattle.rawk_arrays.specs.Elements.{Elements}

abbrev pub elements_code : Coded Value → Coded Elements
elements_code value = map.code (coded_list coded_ℕ) value
