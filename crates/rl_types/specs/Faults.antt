-- What a person reads of a fault in a frame.
use Rattle.std.specs.Prelude.{ℕ, List, ◌++◌, codes}
use Rattle.rl_types.specs.declared.frames.WireFault.{WireFault}
use Rattle.rl_types.specs.declared.frames.WireFault.TheVariants.{TooLong, NotText, NotJson, NotObject, Missing, BadField, NoMemory}

abbrev pub fault_text : WireFault → List ℕ
fault_text TooLong = codes "the frame is too long"
fault_text NotText = codes "the frame is not UTF-8"
fault_text NotJson = codes "the frame is not JSON"
fault_text NotObject = codes "the frame is not a JSON object"
fault_text (Missing field) = codes "missing field " ++ field
fault_text (BadField field) = codes "bad field " ++ field
fault_text NoMemory = codes "out of memory"
