mod FullGroups
