-- How what a reader answers stands to what there is to read.
use Rattle.std.specs.Prelude.{◌≡◌, List, ◌++◌, option_map, Option, Some, None, Result, Ok, Err, ⊤}
use Rattle.dv_forms.specs.declared.shape_fault.ShapeFault.{ShapeFault}
use Rattle.dv_forms.specs.declared.shape_fault.ShapeFault.TheVariants.{BadShape, OutOfMemory}

-- why a reader stops: there is nothing to read, or an allocation failed
abbrev pub Stops : {X : Type 0} → ShapeFault → Option X → Type 0
Stops BadShape read = read ≡ None
Stops OutOfMemory read = ⊤

-- the answer is what there is to read
abbrev pub Reads : {X : Type 0} → Result X ShapeFault → Option X → Type 0
Reads (Ok x) read = read ≡ Some x
Reads (Err stop) read = Stops stop read

-- the answer, seen by a view, is what there is to read
abbrev pub Gives : {X Y : Type 0} → (X → Y) → Result X ShapeFault → Option Y → Type 0
Gives view (Ok x) read = read ≡ Some (view x)
Gives view (Err stop) read = Stops stop read

-- what a list reads as, of which the front is read
abbrev pub with_front : {X : Type 0} → List X → Option (List X) → Option (List X)
with_front front rest = option_map (λ xs. front ++ xs) rest
