-- The numbers of docs/RULES.md, by name.
use Rattle.std.specs.Prelude.{ℕ}
use Rattle.node.specs.declared.refusal.Refusal.{Refusal}
use Rattle.node.specs.declared.refusal.Refusal.TheVariants as is

abbrev pub lent : ℕ
lent = 1

abbrev pub address : ℕ
address = 2

abbrev pub fletcher : ℕ
fletcher = 3

abbrev pub kind : ℕ
kind = 4

abbrev pub hashed : ℕ
hashed = 5

abbrev pub layout : ℕ
layout = 6

abbrev pub level : ℕ
level = 7

abbrev pub entry : ℕ
entry = 8

abbrev pub keys : ℕ
keys = 9

abbrev pub root : ℕ
root = 10

abbrev pub no_slot : ℕ
no_slot = 11

abbrev pub argument : ℕ
argument = 12

abbrev pub single : ℕ
single = 13

abbrev pub no_cut : ℕ
no_cut = 14

abbrev pub new_root : ℕ
new_root = 15

abbrev pub full : ℕ
full = 16

abbrev pub count : ℕ
count = 17

abbrev pub unmapped : ℕ
unmapped = 18

abbrev pub encrypted : ℕ
encrypted = 19

abbrev pub output : ℕ
output = 20

-- the number of each refusal that the code answers
abbrev pub number_of : Refusal → ℕ
number_of is.Lent = lent
number_of is.Address = address
number_of is.Fletcher = fletcher
number_of is.Kind = kind
number_of is.Hashed = hashed
number_of is.Layout = layout
number_of is.Level = level
number_of is.Entry = entry
number_of is.Keys = keys
number_of is.Root = root
number_of is.NoSlot = no_slot
number_of is.Argument = argument
number_of is.Single = single
number_of is.NoCut = no_cut
number_of is.NewRoot = new_root
number_of is.Full = full
number_of is.Count = count
number_of is.Unmapped = unmapped
number_of is.Encrypted = encrypted
number_of is.Output = output
