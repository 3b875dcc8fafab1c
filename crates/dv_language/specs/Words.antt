-- The words, as JSON: those of each place together, as the tables have them.
use Rattle.std.specs.Prelude.{List, [], ◌∷◌, ◌++◌, map, codes}
use Rattle.serde_json.specs.Data.{Data, unsigned, number, string, array, object, member, no_members}
use Rattle.serde_json.specs.View.{items_of}
use Rattle.dv_forms.specs.declared.want.CallKind.{CallKind}
use Rattle.dv_forms.specs.declared.want.CallKind.TheVariants as call
use Rattle.dv_forms.specs.Words.{Form, own_forms}
use Rattle.dv_language.specs.Wants.{place_name, wants_data}

-- the places where the words of such a place may stand, the wider one first
abbrev pub places_of : CallKind → List CallKind
places_of call.Event = call.Event ∷ []
places_of call.Action = call.Event ∷ call.Action ∷ []
places_of call.Statement = call.Statement ∷ []
places_of call.End = call.End ∷ []
places_of call.Leaving = call.End ∷ call.Leaving ∷ []
places_of call.Work = call.Work ∷ []
places_of call.Outcome = call.Outcome ∷ []

-- the same by name
abbrev pub places_data : CallKind → Data
places_data c = array (items_of (map (λ place. string (place_name place)) (places_of c)))

-- a form of a word
abbrev pub form_data : CallKind → Form → Data
form_data c form =
    object (member (codes "arguments") (wants_data form.wants)
    (member (codes "since") (number (unsigned form.since)) (member (codes "text") (string form.shown)
    (member (codes "where") (places_data c) (member (codes "word") (string form.word) no_members)))))

-- the forms of the words of a place
unfoldable pub rows_of : CallKind → List Data
rows_of c = map (form_data c) (own_forms c)

-- the words
abbrev pub words_data : Data
words_data =
    array (items_of (rows_of call.Event ++ (rows_of call.Action
    ++ (rows_of call.Statement ++ (rows_of call.Leaving ++ (rows_of call.End ++ (rows_of call.Work ++ rows_of call.Outcome)))))))
