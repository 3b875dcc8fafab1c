-- How refusals are printed.
use Rattle.std.specs.Prelude.{ℕ, List, ◌++◌, codes, decimal}
use Rattle.dv_reader.specs.declared.error.ScriptFault.{ScriptFault}
use Rattle.dv_reader.specs.declared.error.ScriptFault.TheVariants.{TooLong, NotJson, BadVersion, BadShape, TooMany}
use Rattle.dv_reader.specs.declared.error.ScriptFault.TheVariants.{BadName, BadClass, OutOfMemory, BadPool, BadBody}
use Rattle.dv_reader.specs.declared.error.ScriptFault.TheVariants.{BadCooperator}

-- the number of a refusal
abbrev pub refusal_number : ScriptFault → ℕ
refusal_number TooLong = 1
refusal_number NotJson = 2
refusal_number BadVersion = 3
refusal_number BadShape = 4
refusal_number TooMany = 5
refusal_number BadName = 6
refusal_number BadClass = 7
refusal_number OutOfMemory = 8
refusal_number BadPool = 9
refusal_number BadBody = 10
refusal_number BadCooperator = 11

-- the name of a refusal
abbrev pub refusal_name : ScriptFault → List ℕ
refusal_name TooLong = codes "TooLong"
refusal_name NotJson = codes "NotJson"
refusal_name BadVersion = codes "BadVersion"
refusal_name BadShape = codes "BadShape"
refusal_name TooMany = codes "TooMany"
refusal_name BadName = codes "BadName"
refusal_name BadClass = codes "BadClass"
refusal_name OutOfMemory = codes "OutOfMemory"
refusal_name BadPool = codes "BadPool"
refusal_name BadBody = codes "BadBody"
refusal_name BadCooperator = codes "BadCooperator"

-- the line of a refusal
abbrev pub refusal_text : ScriptFault → List ℕ
refusal_text refusal = codes "script refused: " ++ decimal (refusal_number refusal) ++ codes " " ++ refusal_name refusal
