-- What may be asked of a script: of its texts, each at a place that asks for a leaf or for a word, and of its objects.
use Rattle.std.specs.Prelude.{ℕ, Bool, true, false, not, ◌&&◌, ◌||◌, nat_le, List, is_some, bytes_eq}
use Rattle.std.specs.List.{list_any}
use Rattle.dv_value.specs.declared.classes.Class.{Class}
use Rattle.dv_value.specs.Classes.{find_class}
use Rattle.dv_script.specs.declared.script.NamedBody.{NamedBody}
use Rattle.dv_script.specs.declared.script.NamedCooperator.{NamedCooperator}
use Rattle.dv_script.specs.declared.script.NamedPool.{NamedPool}
use Rattle.dv_forms.specs.declared.want.Object.{Object}
use Rattle.dv_forms.specs.declared.want.Object.TheVariants as object
use Rattle.dv_forms.specs.declared.want.Leaf.{Leaf}
use Rattle.dv_forms.specs.declared.want.Leaf.TheVariants as leaf
use Rattle.dv_forms.specs.declared.want.CallKind.{CallKind}
use Rattle.dv_forms.specs.declared.want.Keyed.{Keyed}
use Rattle.dv_forms.specs.declared.want.Keyed.TheVariants as keyed
use Rattle.dv_forms.specs.Words.{may_stand}
use Rattle.dv_forms.specs.declared.versions.TheConstants.{BODIES_SINCE, COMMENTS_SINCE, COOPERATORS_SINCE}
use Rattle.dv_forms.specs.declared.versions.TheConstants.{FAILURES_SINCE}
use Rattle.dv_questions.specs.declared.question.Question.{Question}
use Rattle.dv_questions.specs.declared.question.Question.TheVariants as question
use Rattle.dv_questions.specs.Names.{is_name, names_one}

-- whether a name that is looked up has the form that its place asks for in a script of this version
abbrev pub is_found_named : ℕ → Object → List ℕ → Bool
is_found_named version object.Deferred name = names_one version name
is_found_named version object.Lock name = is_name version name
is_found_named version object.Queue name = is_name version name
is_found_named version object.Call name = is_name version name
is_found_named version object.Loop name = is_name version name
is_found_named version object.Task name = is_name version name
is_found_named version object.Pool name = is_name version name
is_found_named version object.Class name = true
is_found_named version object.Body name = is_name version name
is_found_named version object.Cooperator name = is_name version name

-- whether a name has the form that its place asks for in a script of this version
abbrev pub is_named : ℕ → Leaf → List ℕ → Bool
is_named version leaf.Text name = true
is_named version (leaf.New o) name = is_name version name
is_named version (leaf.Found o) name = is_found_named version o name
is_named version leaf.Integer name = true
is_named version (leaf.Number low high) name = true
is_named version leaf.Boolean name = true
is_named version leaf.Bound name = true
is_named version leaf.ListFlag name = true
is_named version leaf.GatherFlag name = true
is_named version leaf.Turns name = true
is_named version leaf.Comment name = true

-- whether a script of this version may have such an object: a body and a Cooperator by name need a later one
abbrev pub has_object : ℕ → Object → Bool
has_object version object.Deferred = true
has_object version object.Lock = true
has_object version object.Queue = true
has_object version object.Call = true
has_object version object.Loop = true
has_object version object.Task = true
has_object version object.Pool = true
has_object version object.Class = true
has_object version object.Body = nat_le BODIES_SINCE version
has_object version object.Cooperator = nat_le COOPERATORS_SINCE version

-- whether a text may stand at such a place in a script of this version, whatever it says
abbrev pub stands : ℕ → Leaf → Bool
stands version leaf.Text = true
stands version (leaf.New o) = true
stands version (leaf.Found o) = has_object version o
stands version leaf.Integer = true
stands version (leaf.Number low high) = true
stands version leaf.Boolean = true
stands version leaf.Bound = true
stands version leaf.ListFlag = true
stands version leaf.GatherFlag = true
stands version leaf.Turns = true
stands version leaf.Comment = nat_le COMMENTS_SINCE version

-- whether such an object may stand in a script of this version: a failure needs a later one, and so does a body at some
-- places
abbrev pub object_stands : ℕ → Keyed → Bool
object_stands version (keyed.Script v) = true
object_stands version (keyed.Cooperator v) = true
object_stands version (keyed.Body since) = nat_le since version
object_stands version keyed.Failure = nat_le FAILURES_SINCE version

-- whether a class is looked up there
abbrev pub is_class : Leaf → Bool
is_class leaf.Text = false
is_class (leaf.New o) = false
is_class (leaf.Found object.Deferred) = false
is_class (leaf.Found object.Lock) = false
is_class (leaf.Found object.Queue) = false
is_class (leaf.Found object.Call) = false
is_class (leaf.Found object.Loop) = false
is_class (leaf.Found object.Task) = false
is_class (leaf.Found object.Pool) = false
is_class (leaf.Found object.Class) = true
is_class (leaf.Found object.Body) = false
is_class (leaf.Found object.Cooperator) = false
is_class leaf.Integer = false
is_class (leaf.Number low high) = false
is_class leaf.Boolean = false
is_class leaf.Bound = false
is_class leaf.ListFlag = false
is_class leaf.GatherFlag = false
is_class leaf.Turns = false
is_class leaf.Comment = false

-- whether a pool is looked up there
abbrev pub is_pool : Leaf → Bool
is_pool leaf.Text = false
is_pool (leaf.New o) = false
is_pool (leaf.Found object.Deferred) = false
is_pool (leaf.Found object.Lock) = false
is_pool (leaf.Found object.Queue) = false
is_pool (leaf.Found object.Call) = false
is_pool (leaf.Found object.Loop) = false
is_pool (leaf.Found object.Task) = false
is_pool (leaf.Found object.Pool) = true
is_pool (leaf.Found object.Class) = false
is_pool (leaf.Found object.Body) = false
is_pool (leaf.Found object.Cooperator) = false
is_pool leaf.Integer = false
is_pool (leaf.Number low high) = false
is_pool leaf.Boolean = false
is_pool leaf.Bound = false
is_pool leaf.ListFlag = false
is_pool leaf.GatherFlag = false
is_pool leaf.Turns = false
is_pool leaf.Comment = false

-- whether a body is looked up there
abbrev pub is_body : Leaf → Bool
is_body leaf.Text = false
is_body (leaf.New o) = false
is_body (leaf.Found object.Deferred) = false
is_body (leaf.Found object.Lock) = false
is_body (leaf.Found object.Queue) = false
is_body (leaf.Found object.Call) = false
is_body (leaf.Found object.Loop) = false
is_body (leaf.Found object.Task) = false
is_body (leaf.Found object.Pool) = false
is_body (leaf.Found object.Class) = false
is_body (leaf.Found object.Body) = true
is_body (leaf.Found object.Cooperator) = false
is_body leaf.Integer = false
is_body (leaf.Number low high) = false
is_body leaf.Boolean = false
is_body leaf.Bound = false
is_body leaf.ListFlag = false
is_body leaf.GatherFlag = false
is_body leaf.Turns = false
is_body leaf.Comment = false

-- whether a Cooperator is looked up there
abbrev pub is_cooperator : Leaf → Bool
is_cooperator leaf.Text = false
is_cooperator (leaf.New o) = false
is_cooperator (leaf.Found object.Deferred) = false
is_cooperator (leaf.Found object.Lock) = false
is_cooperator (leaf.Found object.Queue) = false
is_cooperator (leaf.Found object.Call) = false
is_cooperator (leaf.Found object.Loop) = false
is_cooperator (leaf.Found object.Task) = false
is_cooperator (leaf.Found object.Pool) = false
is_cooperator (leaf.Found object.Class) = false
is_cooperator (leaf.Found object.Body) = false
is_cooperator (leaf.Found object.Cooperator) = true
is_cooperator leaf.Integer = false
is_cooperator (leaf.Number low high) = false
is_cooperator leaf.Boolean = false
is_cooperator leaf.Bound = false
is_cooperator leaf.ListFlag = false
is_cooperator leaf.GatherFlag = false
is_cooperator leaf.Turns = false
is_cooperator leaf.Comment = false

-- whether a class that is looked up is in this table
abbrev pub is_known : List Class → Leaf → List ℕ → Bool
is_known table l name = not (is_class l) || is_some (find_class name table)

-- whether a pool of this name is among these
abbrev pub is_among : List ℕ → List NamedPool → Bool
is_among name pools = list_any (λ pool. bytes_eq pool.name name) pools

-- whether a pool that is looked up is one of these
abbrev pub is_pooled : List NamedPool → Leaf → List ℕ → Bool
is_pooled pools l name = not (is_pool l) || is_among name pools

-- whether one of these bodies has this name
abbrev pub has_body : List ℕ → List NamedBody → Bool
has_body name bodies = list_any (λ body. bytes_eq body.name name) bodies

-- whether a body that is looked up is one of these
abbrev pub is_declared : List NamedBody → Leaf → List ℕ → Bool
is_declared bodies l name = not (is_body l) || has_body name bodies

-- whether one of these Cooperators has this name
abbrev pub has_cooperator : List ℕ → List NamedCooperator → Bool
has_cooperator name cooperators = list_any (λ cooperator. bytes_eq cooperator.name name) cooperators

-- whether a Cooperator that is looked up is one of these
abbrev pub is_scheduled : List NamedCooperator → Leaf → List ℕ → Bool
is_scheduled cooperators l name = not (is_cooperator l) || has_cooperator name cooperators

-- a question: what it asks of a text at the place of a leaf, of the word of a call, and of an object
pub record Asked : Type 0 where
  pub of_leaf : Leaf → List ℕ → Bool
  pub of_word : CallKind → List ℕ → Bool
  pub of_object : Keyed → Bool

-- whether each word is one of this version, each comment, and each failure in a value
abbrev pub words : ℕ → Asked
words version = record {
  of_leaf = λ l text. stands version l;
  of_word = λ c word. may_stand c word version;
  of_object = object_stands version;
}

-- whether each name has the form of one of this version
abbrev pub names : ℕ → Asked
names version = record { of_leaf = is_named version; of_word = λ c word. true; of_object = λ k. true }

-- whether each class that is used is in this table
abbrev pub classes : List Class → Asked
classes table = record { of_leaf = is_known table; of_word = λ c word. true; of_object = λ k. true }

-- whether each pool that is used is one of these
abbrev pub pools : List NamedPool → Asked
pools declared = record { of_leaf = is_pooled declared; of_word = λ c word. true; of_object = λ k. true }

-- whether each body that is used by its name is one of these
abbrev pub bodies : List NamedBody → Asked
bodies named = record { of_leaf = is_declared named; of_word = λ c word. true; of_object = λ k. true }

-- whether each Cooperator that is used by its name is one of these
abbrev pub cooperators : List NamedCooperator → Asked
cooperators scheduled = record {
  of_leaf = is_scheduled scheduled;
  of_word = λ c word. true;
  of_object = λ k. true;
}

-- all six
abbrev pub every : ℕ → List Class → List NamedPool → List NamedBody → List NamedCooperator → Asked
every version table declared named scheduled = record {
  of_leaf = λ l name.
      stands version l && is_named version l name && is_known table l name && is_pooled declared l name
      && is_declared named l name && is_scheduled scheduled l name;
  of_word = λ c word. may_stand c word version;
  of_object = object_stands version;
}

-- the question, as the code has it
abbrev pub asked_by : Question → Asked
asked_by (question.Words version) = words version
asked_by (question.Names version) = names version
asked_by (question.Classes table) = classes table.now
asked_by (question.Pools declared) = pools declared.now
asked_by (question.Bodies named) = bodies named.now
asked_by (question.Cooperators scheduled) = cooperators scheduled.now
asked_by (question.Every version table declared named scheduled) =
    every version table.now declared.now named.now scheduled.now
