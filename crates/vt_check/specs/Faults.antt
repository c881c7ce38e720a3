-- The words of the checks. The project's own.
use Rattle.std.specs.Prelude.{ℕ, List, codes}
use Rattle.vt_check.specs.declared.fault.CheckKind.{CheckKind}
use Rattle.vt_check.specs.declared.fault.CheckKind.TheVariants.{DefinePlace, Name, Taken, Method, Count, Opt, Block, Params, Path}

-- one word a check
abbrev pub check_word : CheckKind → List ℕ
check_word DefinePlace = codes "define_place"
check_word Name = codes "name"
check_word Taken = codes "taken"
check_word Method = codes "method"
check_word Count = codes "count"
check_word Opt = codes "option"
check_word Block = codes "block"
check_word Params = codes "params"
check_word Path = codes "path"
