-- What the code copies out of a place. Only the code needs this: nothing here states document 02.
use Rattle.std.specs.Prelude.{ℕ, ◌+◌, ◌-◌, ◌++◌, length, take, drop}
use Rattle.octets.specs.Bytes.{Bytes, fix, decimal}

-- where the first 52 stands: behind mark, length, 35, 49, 56 and 34
abbrev pub stamp_at : Bytes → Bytes → ℕ → ℕ
stamp_at us them n = 35 + length us + length them + length (decimal n)

-- the fields before `at`, 43, the new 52, and the time of the first one with all that stands behind it as 122
abbrev pub resent : Bytes → ℕ → ℕ → Bytes → Bytes
resent place at end stamp = take (at - 17) (drop 17 place) ++ (fix "43=Y|52=" ++ (stamp ++ (fix "|122=" ++ take (end - (at + 3)) (drop (at + 3) place))))
